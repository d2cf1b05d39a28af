-- `toggle_values` meets its contract: both values' features stand in the plane of the two variables.
use mathlib.Core.Path.{sym, ◌∙◌}
use Rattle.words.specs.Toggled.{toggled-join}
use Rattle.rows.proofs.toggle_values.Goals as goal

pub returns : goal.returns
returns c = c.toggle_in_plane-2.ensures ∙ rw (c.toggle_in_plane.ensures, c.stays.ensures, c.stays-2.ensures) (sym (toggled-join _ _ _))

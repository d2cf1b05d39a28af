-- `toggle_in_plane` meets its contract: the first variable's atoms are one that is kept, or one used and one made.
use mathlib.Core.Path.{refl, sym, ◌∙◌}
use Rattle.rows.specs.Moves.{kinds-same, kinds-apart, grid-left}
use Rattle.rows.proofs.toggle_in_plane.Goals as goal

pub returns-then-of : goal.returns-then-of
returns-then-of c = c.toggle_atom.ensures ∙ rw (c.kept.ensures, kinds-same _ _ c.if-of.true) refl

pub returns-else-of : goal.returns-else-of
returns-else-of c = c.toggle_atom-else-of-2.ensures ∙ rw (c.toggle_atom-else-of.ensures, c.used.ensures, c.made.ensures, kinds-apart _ _ c.if-of.false) (sym (grid-left _ _ _ _ _))

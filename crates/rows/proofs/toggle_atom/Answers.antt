-- `toggle_atom` meets its contract: the other variable's atoms are one that is kept, or one used and one made.
use mathlib.Core.Path.{refl, sym, ◌∙◌}
use Rattle.rows.specs.Moves.{kinds-same, kinds-apart, grid-right}
use Rattle.rows.proofs.toggle_atom.Goals as goal

pub returns-then-to : goal.returns-then-to
returns-then-to c = c.toggle_pair.ensures ∙ rw (c.kept.ensures, kinds-same _ _ c.if-to.true) refl

pub returns-else-to : goal.returns-else-to
returns-else-to c = c.toggle_pair-else-to-2.ensures ∙ rw (c.toggle_pair-else-to.ensures, c.used.ensures, c.made.ensures, kinds-apart _ _ c.if-to.false) (sym (grid-right _ _ _ _ _))

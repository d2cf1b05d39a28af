-- `toggle_pair` meets its contract: where the grid has 1 the one feature is toggled, else none.
use mathlib.Core.Path.{sym, ◌∙◌}
use Rattle.numbering.specs.Sizes.{limits-small}
use Rattle.numbering.specs.Planes.{plane-small}
use Rattle.rows.specs.Moves.{both-room, grid-on, grid-off}
use Rattle.rows.proofs.toggle_pair.Goals as goal

pub number-requires : goal.number-requires
number-requires c =
    let (r, a, b, d, h) = c.requires in plane-small _ _ _ _ _ _ (limits-small _ r.limits) d h a.1 b.1

pub toggle-requires : goal.toggle-requires
toggle-requires c =
    let (r, a, b, d, h) = c.requires in rw (c.number.ensures ∙ h _ _ a.1 b.1) (both-room _ _ _ _ _ _ r d a.1 b.1)

pub returns-then-turns : goal.returns-then-turns
returns-then-turns c =
    let (_, a, b, _, h) = c.requires in
    c.toggle.ensures ∙ rw (c.number.ensures ∙ h _ _ a.1 b.1)
    (sym (grid-on _ _ _ _ (sym c.turns.ensures ∙ c.if-turns.true)))

pub returns-else-turns : goal.returns-else-turns
returns-else-turns c = sym (grid-off _ _ _ _ (sym c.turns.ensures ∙ c.if-turns.false))

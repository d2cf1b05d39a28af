-- `slots::mark`: each way out is a case of `marked`.
use mathlib.Core.Path.{◌≡◌, ap, sym, ◌∙◌}
use Rattle.meaning.specs.Workspace.{has}
use Rattle.slots.specs.Change.{marked}
use Rattle.slots.specs.Area.{slot_at}
use Rattle.slots.proofs.mark.Goals as goal
use Rattle.slots.proofs.mark.Goals.{After-has}

slot_has : (c : After-has) → let s = c.args in has (slot_at s.w s.area.now s.i) s.m ≡ c.has.result
slot_has c = ap (λ l. has l c.args.m) (sym c.slot_of.ensures.0) ∙ sym c.has.ensures

pub returns-then-has : goal.returns-then-has
unfolding marked
returns-then-has c = rw (slot_has (goal.at.returns-then-has c).After-has ∙ c.if-has.true) c.toggle.ensures

pub returns-else-has : goal.returns-else-has
unfolding marked
returns-else-has c = rw (slot_has (goal.at.returns-else-has c).After-has ∙ c.if-has.false)

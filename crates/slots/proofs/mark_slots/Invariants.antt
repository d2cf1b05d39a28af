-- `slots::mark_slots`: the slots below i that have their features are collected (`Collected`).
use Rattle.meaning.specs.Workspace.{has}
use Rattle.slots.specs.Area.{slot_at}
use Rattle.slots.specs.Find.{Collected}
use Rattle.slots.proofs.mark_slots.Given as goal

abbrev pub invariant-loop-i : goal.invariant-loop-i
invariant-loop-i g l = Collected (λ i. has (slot_at l.w l.area i) (g.of i)) (has l.initial.set) l.i l.set

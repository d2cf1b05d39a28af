-- `slots::settle_slots`: between two turns the slots below i are settled (`Settling`).
use Rattle.slots.specs.Settling.{Settling}
use Rattle.slots.proofs.settle_slots.Given as goal

abbrev pub invariant-loop-i : goal.invariant-loop-i
invariant-loop-i l = Settling l.n l.pending l.initial.area l.i l.area l.row

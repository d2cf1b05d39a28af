-- `slots::clear_pending`: between two turns the area is a `Clearing`.
use Prim.Native.Nat.{◌-◌}
use Rattle.slots.specs.Inserting.{Clearing}
use Rattle.slots.proofs.clear_pending.Given as goal

abbrev pub invariant-loop-i : goal.invariant-loop-i
invariant-loop-i l = Clearing l.p l.pending l.row l.initial.area l.i l.area

abbrev pub decreases-loop-i : goal.decreases-loop-i
decreases-loop-i l = l.p - l.i

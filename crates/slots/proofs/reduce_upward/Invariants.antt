-- `slots::reduce_upward`: between two turns the row is a `Turn`.
use Prim.Native.Nat.{◌-◌}
use lib.ListN.{length}
use Rattle.meaning.specs.Workspace.{has}
use Rattle.slots.specs.Area.{slots_in}
use Rattle.slots.specs.Reducing.{Turn}
use Rattle.slots.proofs.reduce_upward.Given as goal

abbrev pub invariant-loop-p : goal.invariant-loop-p
invariant-loop-p l = Turn l.n (slots_in l.n l.area) (has l.full) (has l.initial.row) (length l.initial.row) l.p l.row

abbrev pub decreases-loop-p : goal.decreases-loop-p
decreases-loop-p l = l.n - l.p

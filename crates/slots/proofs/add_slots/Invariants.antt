-- `slots::add_slots`: between two turns the row is an `Adding`.
use Prim.Native.Nat.{◌-◌}
use mathlib.Core.Bool.{◌&&◌}
use lib.ListN.{length}
use Rattle.meaning.specs.Workspace.{has}
use Rattle.slots.specs.Area.{slots_in}
use Rattle.slots.specs.Reducing.{Adding}
use Rattle.slots.proofs.add_slots.Given as goal

abbrev pub invariant-loop-p : goal.invariant-loop-p
invariant-loop-p l = Adding l.n (slots_in l.n l.area) (λ i. has l.own i && has l.chosen i) (has l.initial.row) (length l.own) l.p l.row

abbrev pub decreases-loop-p : goal.decreases-loop-p
decreases-loop-p l = l.n - l.p

-- `add_operators`: the operators that are left, inserted into the workspace as it is, give what all of them give.
use Prim.Native.Nat.{◌-◌}
use mathlib.Core.Path.{◌≡◌}
use lib.ListN.{length}
use Rattle.condition.specs.Later.{Kept, settled_as}
use Rattle.opening.specs.Adding.{Workable, added_from}
use Rattle.opening.proofs.add_operators.Given as goal

abbrev pub invariant-loop : goal.invariant-loop
invariant-loop l = Kept l.v l.n l.full l.pending l.room × Workable l.v l.n (settled_as l.v l.n l.pending l.room) × (length l.room ≡ length l.initial.room)
    × (added_from l.v l.n l.count l.bytes l.at (settled_as l.v l.n l.initial.pending l.initial.room) ≡ added_from l.v l.n (l.count - l.counter) l.bytes l.next (settled_as l.v l.n l.pending l.room))

-- `add_forgettings`: what is inserted are the rows of those before the one that was found.
use Prim.Native.Nat.{◌-◌}
use mathlib.Core.Path.{◌≡◌}
use mathlib.Core.Bool.{false}
use lib.ListN.{length}
use Rattle.meaning.specs.Workspace.{has}
use Rattle.forgetting.specs.Out.{out_by}
use Rattle.forgetting.specs.Kept.{kept_all, passed_by}
use Rattle.condition.specs.Later.{Kept, settled_as}
use Rattle.opening.specs.Forgotten.{Forgot}
use Rattle.opening.proofs.add_forgettings.Given as goal

abbrev pub invariant-loop-next : goal.invariant-loop-next
invariant-loop-next l = Kept l.v l.n l.full l.pending l.room
    × Forgot l.v l.n l.sizes (out_by l.sizes (has l.pairs) l.goal false) (settled_as l.v l.n l.initial.pending l.initial.room) (settled_as l.v l.n l.pending l.room) l.next × (length l.room ≡ length l.initial.room)

abbrev pub decreases-loop-next : goal.decreases-loop-next
decreases-loop-next l = let out = out_by l.sizes (has l.pairs) l.goal false in length (kept_all l.sizes out) - length (passed_by l.sizes out l.next)

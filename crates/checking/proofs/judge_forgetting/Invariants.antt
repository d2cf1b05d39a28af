-- `judge_forgetting`: the walk stands at one that is kept, or at the end, and those before are allowed.
use Prim.Native.Nat.{◌-◌}
use mathlib.Core.Bool.{false}
use lib.ListN.{length}
use Rattle.meaning.specs.Workspace.{has}
use Rattle.forgetting.specs.Out.{out_by}
use Rattle.forgetting.specs.Kept.{kept_in}
use Rattle.checking.specs.Forgetting.{Passing}
use Rattle.checking.proofs.judge_forgetting.Given as goal

abbrev pub invariant-loop-next : goal.invariant-loop-next
invariant-loop-next l = Passing l.sizes (has l.pairs) (has l.weights) (out_by l.sizes (has l.pairs) l.goal false) l.next l.k

abbrev pub decreases-loop-next : goal.decreases-loop-next
decreases-loop-next l = length (kept_in l.sizes (has l.pairs) l.goal false) - l.k

-- `count_kept`: the walk stands at one that is kept, or at the end, and it has counted those before.
use Rattle.std.specs.Prelude.{◌-◌, length}
use Rattle.meaning.specs.Workspace.{has}
use Rattle.forgetting.specs.Out.{out_by}
use Rattle.forgetting.specs.Kept.{kept_all, Stands}
use Rattle.forgetting.proofs.count_kept.Given as goal

abbrev pub invariant-loop-next : goal.invariant-loop-next
invariant-loop-next l = Stands l.sizes (out_by l.sizes (has l.pairs) l.goal l.lean) l.next l.count

abbrev pub decreases-loop-next : goal.decreases-loop-next
decreases-loop-next l = length (kept_all l.sizes (out_by l.sizes (has l.pairs) l.goal l.lean)) - l.count

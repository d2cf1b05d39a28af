-- `count_kept`: the walk stands at one that is kept, or at the end, and it has counted those before.
use Rattle.std.specs.Prelude.{Some}
use Rattle.std.proofs.Common.{arith}
use Rattle.meaning.specs.Workspace.{has}
use Rattle.forgetting.specs.Out.{out_by}
use Rattle.forgetting.specs.Kept.{Stands, stands-first, stands-next, stands-below, stands-few}
use Rattle.forgetting.proofs.count_kept.Goals as goal
use Rattle.forgetting.proofs.count_kept.Goals.{In-Some}

-- It stands at one that is kept.
stands : (c : In-Some) → let a = c.args in Stands a.sizes.now (out_by a.sizes.now (has a.pairs.now) a.goal.now a.lean) (Some c.in-Some.kept) c.loop-next.count
stands c = rw c.in-Some.is at c.loop-next.invariant

pub loop-next-init : goal.loop-next-init
loop-next-init c = stands-first _ _ _ c.next_kept-next.ensures

pub overflow_add-count : goal.overflow_add-count
overflow_add-count c = omega (arith, stands-few _ _ _ _ (stands (goal.at.overflow_add-count c).In-Some) c.requires.0.limits)

pub loop-next-smaller : goal.loop-next-smaller
loop-next-smaller c = omega (arith, stands-below _ _ _ _ (stands (goal.at.loop-next-smaller c).In-Some))

pub loop-next-preserved : goal.loop-next-preserved
loop-next-preserved c = stands-next _ _ _ _ (stands (goal.at.loop-next-preserved c).In-Some) _ c.next_kept-next-in-Some.ensures

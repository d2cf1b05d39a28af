-- `add_operators`: the operators that are left, inserted into the workspace as it is, give what all of them give.
use mathlib.Core.Path.{sym, ◌∙◌}
use native.Mathlib.Omega.{arith}
use Rattle.operator.specs.Fold.{walk_end, turn-unread}
use Rattle.condition.specs.Later.{settled_as}
use Rattle.opening.specs.Adding.{Workable, added-workable, added_more}
use Rattle.opening.proofs.add_operators.Goals as goal
use Rattle.opening.proofs.add_operators.Goals.{After-add_operator}

-- The workspace is workable after an operator.
workable : (c : After-add_operator) → let a = c.args in
    Workable a.v a.n (settled_as a.v a.n c.add_operator.new.pending c.add_operator.new.room)
workable c = added-workable _ _ _ _ _ _ _ c.loop.invariant.1 _ _ c.loop-test.true c.add_operator.ensures.place c.add_operator.ensures.rows

pub returns-in_default-clause-rows : goal.returns-in_default-clause-rows
returns-in_default-clause-rows c =
    sym (c.loop.invariant.3 ∙ turn-unread _ _ _ _ _ _ _ _ _ c.loop-test.true c.add_operator.ensures.place c.add_operator.ensures.rows _ c.in_default.is)

pub loop-preserved : goal.loop-preserved
loop-preserved c = let inv = c.loop.invariant in let kept = c.settle_when_due.ensures.kept in let same = c.settle_when_due.ensures.same in (
  kept,
  rw same (workable (goal.at.loop-preserved c).After-add_operator),
  omega (arith, inv.2, c.add_operator.auto.room, c.settle_when_due.auto),
  rw same (inv.3 ∙ added_more _ _ _ _ _ _ _ inv.1 _ _ c.loop-test.true c.add_operator.ensures.place c.add_operator.ensures.rows _ c.in-Ok.is),
)

pub returns-clause-rows : goal.returns-clause-rows
returns-clause-rows c = sym (c.loop.invariant.3 ∙ walk_end _ _ _ _ _ _ _ c.loop-test.false)

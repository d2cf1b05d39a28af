-- `editing::judge_end`: what the values came to, then, of a start, whether they hold a listed pair.
use Rattle.std.specs.Prelude.{◌≡◌, refl}
use Rattle.std.proofs.Common.{sym, ◌∙◌}
use Rattle.std.proofs.lemmas.Result.{err_from_is_err_and}
use Rattle.meaning.specs.Workspace.{has}
use Rattle.meaning.specs.Answer.{fine}
use Rattle.editing.specs.Operand.{values_and, start-held, goal-free, values-state, end_after}
use Rattle.editing.proofs.judge_end.Goals as goal
use Rattle.editing.proofs.judge_end.Goals.{In_ok-judge_values}

-- The values are found fine.
found : (c : In_ok-judge_values) → values_and fine c.args.sizes.now c.args.values.now ≡ fine
found c = sym c.in_ok-judge_values.ensures

pub returns-in_err-judge_values : goal.returns-in_err-judge_values
returns-in_err-judge_values c = let s = c.args in
    let p = err_from_is_err_and c.from_residual.result c.from_residual.ensures.1 in
    rw (p.1, p.2) (sym (end_after s.end s.sizes.now (has s.pairs.now) s.values.now _ _ (sym c.in_err-judge_values.ensures) refl))

pub holds-requires : goal.holds-requires
holds-requires c = (c.requires, values-state _ _ fine (found (goal.at.holds-requires c).In_ok-judge_values))

pub returns-then-holds : goal.returns-then-holds
returns-then-holds c = let s = c.args in sym (end_after s.end s.sizes.now (has s.pairs.now) s.values.now _ _
    (found (goal.at.returns-then-holds c).In_ok-judge_values) (start-held _ _ _ _ _ c.in-Start.is (sym c.holds.ensures ∙ c.if-holds.true)))

pub returns-else-holds : goal.returns-else-holds
returns-else-holds c = let s = c.args in sym (end_after s.end s.sizes.now (has s.pairs.now) s.values.now _ _
    (found (goal.at.returns-else-holds c).In_ok-judge_values) (start-held _ _ _ _ _ c.in-Start.is (sym c.holds.ensures ∙ c.if-holds.false)))

pub returns-in-Goal : goal.returns-in-Goal
returns-in-Goal c = let s = c.args in sym (end_after s.end s.sizes.now (has s.pairs.now) s.values.now _ _
    (found (goal.at.returns-in-Goal c).In_ok-judge_values) (goal-free _ _ _ _ c.in-Goal.is))

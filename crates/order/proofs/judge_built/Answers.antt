-- `judge_built`: each way out is one of the laws on what is judged last, by what was found up to there.
use Prim.Native.Nat.{◌≤◌}
use mathlib.Core.Path.{sym, ◌∙◌}
use native.Mathlib.Omega.{arith}
use Rattle.meaning.specs.Limits.{most_atoms}
use Rattle.forgetting.specs.Kept.{kept-few}
use Rattle.order.specs.Last.{last-outgrown, last-held, last-unclosed, last-got}
use Rattle.order.proofs.judge_built.Goals as goal
use Rattle.order.proofs.judge_built.Goals.{After-count_kept-kept}

-- Few forgetting operators are kept.
few : (c : After-count_kept-kept) → c.count_kept-kept.result ≤ most_atoms
few c = rw c.count_kept-kept.ensures (kept-few _ _ c.requires.0.limits)

pub overflow_sub-kept : goal.overflow_sub-kept
overflow_sub-kept c = omega (arith, few c)

pub returns-then-kept-count : goal.returns-then-kept-count
returns-then-kept-count c = sym (last-outgrown _ _ _ _ _ _ _ _ _ c.count_kept-kept.ensures (omega (arith, few (goal.at.returns-then-kept-count c).After-count_kept-kept, c.if-kept-count.true)))

pub returns-then-holds : goal.returns-then-holds
returns-then-holds c = sym (last-held _ _ _ _ _ _ _ _ _ c.count_kept-kept.ensures (omega (arith, few (goal.at.returns-then-holds c).After-count_kept-kept, c.if-kept-count.false)) (sym c.holds.ensures ∙ c.if-holds.true))

pub returns-then-not-are_closed : goal.returns-then-not-are_closed
returns-then-not-are_closed c = sym (last-unclosed _ _ _ _ _ _ _ _ _ c.count_kept-kept.ensures (omega (arith, few (goal.at.returns-then-not-are_closed c).After-count_kept-kept, c.if-kept-count.false)) (sym c.holds.ensures ∙ c.if-holds.false)
    (sym c.are_closed.ensures ∙ c.if-not-are_closed.true))

pub returns : goal.returns
returns c = sym (last-got _ _ _ _ _ _ _ _ _ c.count_kept-kept.ensures (omega (arith, few (goal.at.returns c).After-count_kept-kept, c.if-kept-count.false)) (sym c.holds.ensures ∙ c.if-holds.false)
    (sym c.are_closed.ensures ∙ c.if-not-are_closed.false))

-- `judge_forgetting`: the walk stands at one that is kept, or at the end, and those before are allowed.
use Rattle.std.specs.Prelude.{◌≡◌, false, Some}
use Rattle.std.proofs.Common.{sym, ◌∙◌, arith}
use Rattle.meaning.specs.Workspace.{has}
use Rattle.theory.specs.Rows.{allowed}
use Rattle.forgetting.specs.Out.{out_by}
use Rattle.forgetting.specs.Kept.{forgotten_by, stands-below, stands-few}
use Rattle.checking.specs.Forgetting.{Passing, passing-first, passing-next, passing-breaks, passing-ends}
use Rattle.checking.proofs.judge_forgetting.Goals as goal
use Rattle.checking.proofs.judge_forgetting.Goals.{In-Some, After-is_allowed}

-- The walk stands at one that is kept, and whether that is allowed.
passing : (s : In-Some) → let a = s.args in
    Passing a.sizes.now (has a.pairs.now) (has a.weights.now) (out_by a.sizes.now (has a.pairs.now) a.goal.now false) (Some s.in-Some.kept) s.loop-next.k
passing s = rw s.in-Some.is at s.loop-next.invariant

told : (s : After-is_allowed) → let a = s.args in
    s.is_allowed.result ≡ allowed a.sizes.now (has a.pairs.now) (has a.weights.now) (forgotten_by a.sizes.now s.in-Some.kept.variable s.in-Some.kept.value)
told s = rw (← s.entry-entry.ensures, ← s.one.ensures) s.is_allowed.ensures

pub loop-next-init : goal.loop-next-init
loop-next-init c = passing-first _ _ _ _ _ c.next_kept-next.ensures

pub overflow_add-result : goal.overflow_add-result
overflow_add-result c = omega (arith, c.requires.0, stands-few _ _ _ _ (passing (goal.at.overflow_add-result c).In-Some).stands c.requires.1.limits)

pub returns-then-not-is_allowed : goal.returns-then-not-is_allowed
returns-then-not-is_allowed c = let at = goal.at.returns-then-not-is_allowed c in
    passing-breaks _ _ _ _ _ _ (passing at.In-Some) _ (sym (told at.After-is_allowed) ∙ c.if-not-is_allowed.true)

pub overflow_add-k : goal.overflow_add-k
overflow_add-k c = omega (arith, stands-few _ _ _ _ (passing (goal.at.overflow_add-k c).In-Some).stands c.requires.1.limits)

pub loop-next-smaller : goal.loop-next-smaller
loop-next-smaller c = omega (arith, stands-below _ _ _ _ (passing (goal.at.loop-next-smaller c).In-Some).stands)

pub loop-next-preserved : goal.loop-next-preserved
loop-next-preserved c = let at = goal.at.loop-next-preserved c in
    passing-next _ _ _ _ _ _ (passing at.In-Some) _ (sym (told at.After-is_allowed) ∙ c.if-not-is_allowed.false) c.next_kept-next-in-Some.ensures

pub returns : goal.returns
returns c = passing-ends _ _ _ _ _ _ (rw c.in_default.is at c.loop-next.invariant)

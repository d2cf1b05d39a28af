-- `judge_operator` judges entry by entry: at each turn the entries from here on are judged as all of them are.
use Rattle.std.proofs.Common.{◌≡◌, ◌+◌, [], ◌∷◌, suc, true, sym, ap, ◌∙◌, arith, length, drop}
use Rattle.std.proofs.lemmas.Result.{err_from_is_err_and}
use borrow.Author.Tests.{lt-ltb, le-ltb, le-leb, lt-leb}
use Rattle.meaning.specs.Answer.{Judged, fine, entries_judged}
use Rattle.meaning.specs.File.{inside}
use Rattle.theory.specs.Operands.{unless, entries-fine}
use Rattle.operator.specs.Laws.{judge-more, judge-all}
use Rattle.operator.proofs.judge_operator.Goals as goal
use Rattle.operator.proofs.judge_operator.Goals.{At-loop-k, After-judge_entry}

-- The count is in its range.
counted : (c : At-loop-k) → let a = c.args in inside 1 (suc (length a.sizes.now)) a.operator.now.count ≡ true
counted c = let a = c.args in simp (le-leb 1 _ c.if-operator-lt1.false, lt-ltb a.operator.now.count (suc (length a.sizes.now)) (omega arith))

-- What is judged of the entries after this one; what is found of this entry decides, or those do.
abbrev later : (c : After-judge_entry) → Judged
later c = entries_judged c.args.sizes.now (c.at-entry.result.variable + 1) (drop (c.loop-k.k + 1) c.entries-entries.result) fine

turn : (c : After-judge_entry) → let sizes = c.args.sizes.now in
    entries_judged sizes 0 c.entries-entries.result fine ≡ unless (entries_judged sizes c.loop-k.least (c.at-entry.result ∷ []) fine) (later c)
turn c = rw c.at-entry.ensures (c.loop-k.invariant ∙ judge-more _ _ c.loop-k.k _ fine (omega arith))

pub returns-then-operator-lt1 : goal.returns-then-operator-lt1
returns-then-operator-lt1 c = simp (lt-leb 1 _ c.if-operator-lt1.true)

pub returns-then-sizes-operator : goal.returns-then-sizes-operator
returns-then-sizes-operator c = simp (le-leb 1 _ c.if-operator-lt1.false, le-ltb _ (suc _) c.if-sizes-operator.true)

pub returns-in_err-judge_entry : goal.returns-in_err-judge_entry
returns-in_err-judge_entry c =
    let p = err_from_is_err_and c.from_residual.result c.from_residual.ensures.1 in
    rw (p.1, p.2, ← c.entries-entries.ensures) (simp (counted (goal.at.returns-in_err-judge_entry c).At-loop-k, turn (goal.at.returns-in_err-judge_entry c).After-judge_entry, sym c.in_err-judge_entry.ensures))

-- An entry that is found fine has a variable.
pub overflow_add-least : goal.overflow_add-least
overflow_add-least c = omega (arith, (entries-fine _ _ _ _ (sym c.in_ok-judge_entry.ensures)).0.1)

pub loop-k-preserved : goal.loop-k-preserved
unfolding entries_judged
loop-k-preserved c = let at = (goal.at.loop-k-preserved c).After-judge_entry in turn at ∙ ap (λ j. unless j (later at)) (sym c.in_ok-judge_entry.ensures)

pub returns : goal.returns
returns c = rw (← c.entries-entries.ensures) (simp (counted (goal.at.returns c).At-loop-k, c.loop-k.invariant ∙ judge-all _ _ c.loop-k.k _ fine (omega arith)))

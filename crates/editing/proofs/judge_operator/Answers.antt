-- `editing::judge_operator`: what the record came to in file order, then whether the list is closed under it.
use Rattle.std.specs.Prelude.{◌≡◌, refl}
use Rattle.std.proofs.Common.{sym, ap, ◌∙◌, arith}
use Rattle.std.proofs.lemmas.Result.{err_from_is_err_and}
use Rattle.meaning.specs.Answer.{fine}
use Rattle.meaning.specs.Pair.{closed}
use Rattle.operator.specs.Known.{count-fine}
use Rattle.editing.specs.Judging.{file_judged, operator-after, file-known}
use Rattle.editing.proofs.judge_operator.Goals as goal
use Rattle.editing.proofs.judge_operator.Goals.{In_ok-judge_operator}

file : (c : In_ok-judge_operator) → file_judged c.args.sizes.now c.args.operator.now ≡ fine
file c = sym c.in_ok-judge_operator.ensures

pub returns-in_err-judge_operator : goal.returns-in_err-judge_operator
returns-in_err-judge_operator c = let s = c.args in
    let p = err_from_is_err_and c.from_residual.result c.from_residual.ensures.1 in
    rw (p.1, p.2) (sym (operator-after s.sizes.now s.pairs.now s.operator.now _ _ (sym c.in_err-judge_operator.ensures) refl))

pub entries-requires : goal.entries-requires
entries-requires c = omega (arith, count-fine c.args.sizes.now c.args.operator.now (file-known _ _ (file c)))

pub is_closed-requires : goal.is_closed-requires
is_closed-requires c = rw c.entries.ensures (record { limits = c.requires.limits; due = c.requires.due; entries = (file-known _ _ (file (goal.at.is_closed-requires c).In_ok-judge_operator)).entries })

pub returns-then-not-is_closed : goal.returns-then-not-is_closed
returns-then-not-is_closed c = sym (operator-after _ _ _ _ _ (file (goal.at.returns-then-not-is_closed c).In_ok-judge_operator)
    (ap (closed _ _) (sym c.entries.ensures) ∙ sym c.is_closed.ensures ∙ c.if-not-is_closed.true))

pub returns : goal.returns
returns c = sym (operator-after _ _ _ _ _ (file (goal.at.returns c).In_ok-judge_operator)
    (ap (closed _ _) (sym c.entries.ensures) ∙ sym c.is_closed.ensures ∙ c.if-not-is_closed.false))

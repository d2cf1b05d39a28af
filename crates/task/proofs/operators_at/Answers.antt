-- `operators_at`: after each operator, those that are left lead to the same answer.
use Rattle.std.proofs.Common.{sym, ap, ◌∙◌}
use Rattle.std.proofs.lemmas.Result.{err_from_is_err_and}
use Rattle.number.specs.Answers.{place_of, place-fault}
use Rattle.operator.specs.Fold.{place-more, operators-fault, operators-none}
use Rattle.task.proofs.operators_at.Goals as goal

pub returns-in_err-read : goal.returns-in_err-read
returns-in_err-read c =
    let p = err_from_is_err_and c.from_residual.result c.from_residual.ensures.1 in
    rw (p.1, p.2) (sym (c.loop.invariant ∙ place-fault _ _ (operators-fault _ _ _ _ _ _ _ c.loop-test.true (sym c.in_err-read.ensures))))

pub loop-preserved : goal.loop-preserved
loop-preserved c = c.loop.invariant ∙ place-more _ _ _ _ _ _ _ c.loop-test.true (sym c.in_ok-read.ensures)

pub returns : goal.returns
returns c = sym (c.loop.invariant ∙ ap place_of (operators-none _ _ _ _ _ c.loop-test.false))

-- `seek`: an answer for each way out, by the laws on what opening and finding tell.
use Rattle.std.proofs.Common.{arith}
use Rattle.std.proofs.lemmas.Result.{err_from_is_err_and}
use Rattle.number.specs.Answers.{reason_of}
use Rattle.line.specs.Sought.{too_long_lem, unopened, sought}
use Rattle.line.proofs.seek.Goals as goal

pub returns-then-input-gt-MOST_INPUT : goal.returns-then-input-gt-MOST_INPUT
returns-then-input-gt-MOST_INPUT c = too_long_lem c.args.input.now (omega (arith, c.if-input-gt-MOST_INPUT.true))

pub returns-in_err-open : goal.returns-in_err-open
returns-in_err-open c = let p = err_from_is_err_and c.from_residual.result c.from_residual.ensures.1 in
    rw (p.1, p.2) (unopened c.args.input.now (omega (arith, c.if-input-gt-MOST_INPUT.false)) c.args.workspace.now c.requires.0 (reason_of c.in_err-open.field-0.0) _ c.in_err-open.ensures)

pub returns : goal.returns
returns c = sought c.args.input.now (omega (arith, c.if-input-gt-MOST_INPUT.false)) c.args.workspace.now c.requires.0 _ _ c.in_ok-open.ensures
    c.args.weights.now _ c.find.result c.requires.1 c.find.ensures

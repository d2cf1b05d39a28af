-- `put_verdict`: each verdict has its line, a refusal with the place of the files' first fault.
use mathlib.Core.Path.{sym, subst}
use native.Mathlib.Omega.{arith}
use Rattle.meaning.specs.Line.{file_text, verdict_line}
use Rattle.checking.specs.Answer.{verdict_of}
use Rattle.decimal.specs.Decimal.{word-few}
use Rattle.placing.specs.Answers.{spot_of}
use Rattle.text.specs.Parts.{most_digits, ShortSpot}
use Rattle.verdicts.specs.Fits.{Short, checked-near, refusal-few}
use Rattle.verdicts.proofs.put_verdict.Goals as goal

pub put_numbered-requires : goal.put_numbered-requires
put_numbered-requires c = let j = c.in-Operator.j in let short = subst (λ v. Short (verdict_of v)) c.in-Operator.is c.requires.1 in
    omega (arith, word-few most_digits j (omega arith) short)

pub put_refused-requires : goal.put_refused-requires
unfolding file_text
put_refused-requires c =
    let number = c.in-Refused.number in
    let near = checked-near c.args.task.now c.args.weights.now (omega arith) (omega arith) in
    let short = subst (λ v. Short (verdict_of v)) c.in-Refused.is c.requires.1 in
    omega (arith, refusal-few number (spot_of c.spot.result) short (subst ShortSpot (sym c.spot.ensures) near))

pub returns-in-Accepted : goal.returns-in-Accepted
unfolding verdict_line
returns-in-Accepted c = rw c.in-Accepted.is c.put.ensures

pub returns-in-EndsAlike : goal.returns-in-EndsAlike
unfolding verdict_line
returns-in-EndsAlike c = rw c.in-EndsAlike.is c.put-in-EndsAlike.ensures

pub returns-in-Operator : goal.returns-in-Operator
unfolding verdict_line
returns-in-Operator c = rw c.in-Operator.is c.put_numbered.ensures

pub returns-in-Refused : goal.returns-in-Refused
unfolding verdict_line file_text
returns-in-Refused c = rw (c.in-Refused.is, ← c.spot.ensures) c.put_refused.ensures

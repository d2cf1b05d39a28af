-- `put_line`: each answer has its line, a refusal with the place of the input's first fault.
use Rattle.std.specs.Prelude.{◌≡◌, [], Ok}
use Rattle.std.proofs.Common.{sym, subst, arith}
use Rattle.meaning.specs.Line.{place_text, line}
use Rattle.number.specs.Answers.{reason_of}
use Rattle.placing.specs.Answers.{spot_of}
use Rattle.text.specs.Parts.{ShortSpot, refused-few, refusal-short}
use Rattle.finding.specs.declared.Found.TheVariants.{Separated, Nothing}
use Rattle.line.specs.Fits.{printed-short}
use Rattle.line.proofs.put_line.Goals as goal

pub put_refused-requires : goal.put_refused-requires
put_refused-requires c = let input = c.args.input.now in
    rw c.from.ensures (omega (arith, refused-few [] [] (omega arith) (omega arith) _ (spot_of c.input_spot.result) (refusal-short (reason_of c.in-Err.reason)) (subst ShortSpot (sym c.input_spot.ensures) (printed-short input))))

pub returns-in-Ok-Separated : goal.returns-in-Ok-Separated
unfolding line
returns-in-Ok-Separated c = let q = rw c.in-Ok-Separated.is at c.in-Ok-Separated.field-0-is in let e : c.args.found ≡ Ok Separated = cc in rw e c.put_separated.ensures

pub returns-in-Ok-Nothing : goal.returns-in-Ok-Nothing
unfolding line
returns-in-Ok-Nothing c = let q = rw c.in-Ok-Nothing.is at c.in-Ok-Nothing.field-0-is in let e : c.args.found ≡ Ok Nothing = cc in rw e c.put.ensures

pub returns-in-Err : goal.returns-in-Err
unfolding line place_text
returns-in-Err c = rw (c.in-Err.is, ← c.input_spot.ensures, ← c.from.ensures) c.put_refused.ensures

-- `florumeja_check_line`: the value fits, so that the number says the answer.
use native.Mathlib.Omega.{arith}
use Rattle.writer.specs.Answer.{outcome_of}
use Rattle.florumeja.specs.Fits.{verdict-lines-fit}
use Rattle.florumeja.proofs.florumeja_check_line.Goals as goal

pub number-requires : goal.number-requires
number-requires c = let start = c.args in
    verdict-lines-fit start.task.now start.weights.now start.room.now (omega arith, omega arith) (outcome_of c.line.result _) c.line.ensures

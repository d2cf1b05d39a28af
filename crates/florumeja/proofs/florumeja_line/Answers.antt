-- `florumeja_line`: the value fits, so that the number says the answer.
use Rattle.writer.specs.Answer.{outcome_of}
use Rattle.florumeja.specs.Fits.{lines_fit}
use Rattle.florumeja.proofs.florumeja_line.Goals as goal

pub number-requires : goal.number-requires
number-requires c = let start = c.args in
    lines_fit start.input.now start.room.now (outcome_of c.line.result _) c.line.ensures

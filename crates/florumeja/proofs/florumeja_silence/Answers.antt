-- `florumeja_silence`: the value fits, so that the number says the answer.
use Rattle.writer.specs.Answer.{outcome_of}
use Rattle.florumeja.specs.Fits.{silences-fit}
use Rattle.florumeja.proofs.florumeja_silence.Goals as goal

pub number-requires : goal.number-requires
number-requires c = let start = c.args in
    silences-fit start.task.now start.marks.now start.room.now (outcome_of c.silence.result _) c.silence.ensures

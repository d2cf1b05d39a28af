-- `florumeja_mend`: the value fits, so that the number says the answer.
use Rattle.writer.specs.Answer.{outcome_of}
use Rattle.florumeja.specs.Fits.{mends-fit}
use Rattle.florumeja.proofs.florumeja_mend.Goals as goal

pub number-requires : goal.number-requires
number-requires c = let start = c.args in
    mends-fit start.task.now start.room.now (outcome_of c.mend.result _) c.mend.ensures

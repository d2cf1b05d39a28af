-- `florumeja_dropped`: the value fits, so that the number says the answer.
use Rattle.writer.specs.Answer.{outcome_of}
use Rattle.florumeja.specs.Fits.{drops-fit}
use Rattle.florumeja.proofs.florumeja_dropped.Goals as goal

pub number-requires : goal.number-requires
number-requires c = let start = c.args in
    drops-fit start.task.now start.room.now (outcome_of c.dropped.result _) c.dropped.ensures

-- `florumeja_to_old`: the value fits, so that the number says the answer.
use Rattle.meaning.specs.File.{plain}
use Rattle.writer.specs.Answer.{outcome_of}
use Rattle.florumeja.specs.Fits.{converts-fit}
use Rattle.florumeja.proofs.florumeja_to_old.Goals as goal

pub number-requires : goal.number-requires
number-requires c = let start = c.args in
    converts-fit plain start.task.now start.room.now (outcome_of c.to_old.result _) c.to_old.ensures

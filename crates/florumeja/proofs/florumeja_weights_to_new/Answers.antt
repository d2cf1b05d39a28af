-- `florumeja_weights_to_new`: the value fits, so that the number says the answer.
use Rattle.meaning.specs.File.{gapped}
use Rattle.writer.specs.Answer.{outcome_of}
use Rattle.florumeja.specs.Fits.{converts-weights-fit}
use Rattle.florumeja.proofs.florumeja_weights_to_new.Goals as goal

pub number-requires : goal.number-requires
number-requires c = let start = c.args in
    converts-weights-fit gapped start.task.now start.weights.now start.room.now (outcome_of c.weights_to_new.result _) c.weights_to_new.ensures

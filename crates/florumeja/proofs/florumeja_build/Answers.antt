-- `florumeja_build`: the value fits, so that the number says the answer.
use Rattle.writer.specs.Answer.{outcome_of}
use Rattle.florumeja.specs.Fits.{builds-fit}
use Rattle.florumeja.proofs.florumeja_build.Goals as goal

pub number-requires : goal.number-requires
number-requires c = let start = c.args in
    builds-fit start.bay.now start.room.now (outcome_of c.build.result _) c.build.ensures

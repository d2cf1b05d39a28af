-- `florumeja_build_partial_lean`: the value fits, so that the number says the answer.
use Rattle.meaning.specs.Partial.{left_out_lean}
use Rattle.writer.specs.Answer.{outcome_of}
use Rattle.florumeja.specs.Fits.{builds-partial-fit}
use Rattle.florumeja.proofs.florumeja_build_partial_lean.Goals as goal

pub number-requires : goal.number-requires
number-requires c = let start = c.args in
    builds-partial-fit left_out_lean start.partial.now start.room.now (outcome_of c.build_partial_lean.result _) c.build_partial_lean.ensures

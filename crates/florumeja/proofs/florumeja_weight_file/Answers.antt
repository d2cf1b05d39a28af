-- `florumeja_weight_file`: the value fits, so that the number says the answer.
use Rattle.words.specs.Members.{members_in}
use Rattle.writer.specs.Answer.{outcome_of}
use Rattle.florumeja.specs.Fits.{writes-fit}
use Rattle.florumeja.proofs.florumeja_weight_file.Goals as goal

pub number-requires : goal.number-requires
number-requires c = let start = c.args in
    writes-fit (members_in start.words.now) start.room.now (outcome_of c.weight_file.result _) c.weight_file.ensures

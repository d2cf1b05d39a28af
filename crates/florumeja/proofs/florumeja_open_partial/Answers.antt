-- `florumeja_open_partial`: the value fits, so that the number says the answer.
use Rattle.opening.specs.Answer.{opened_of}
use Rattle.florumeja.specs.Fits.{opens-partial-fit}
use Rattle.florumeja.proofs.florumeja_open_partial.Goals as goal

pub number-requires : goal.number-requires
number-requires c = let start = c.args in
    opens-partial-fit start.partial.now start.room.now (record { answer = opened_of c.open_partial.result; lent = _ }) c.open_partial.ensures

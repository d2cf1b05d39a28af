-- `florumeja_open`: the value fits, so that the number says the answer.
use Rattle.opening.specs.Answer.{opened_of}
use Rattle.florumeja.specs.Fits.{opens-fit}
use Rattle.florumeja.proofs.florumeja_open.Goals as goal

pub number-requires : goal.number-requires
number-requires c = let start = c.args in
    opens-fit start.task.now start.room.now (record { answer = opened_of c.open.result; lent = _ }) c.open.ensures

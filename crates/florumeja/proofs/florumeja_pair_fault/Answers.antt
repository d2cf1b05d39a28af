-- `florumeja_pair_fault`: the value fits, so that the number says the answer.
use Rattle.mending.specs.Answer.{fault_of}
use Rattle.florumeja.specs.Fits.{faults-fit}
use Rattle.florumeja.proofs.florumeja_pair_fault.Goals as goal

pub number-requires : goal.number-requires
number-requires c = let start = c.args in
    faults-fit start.task.now start.room.now (record { answer = fault_of c.pair_fault.result; lent = _ }) c.pair_fault.ensures

-- `partial_spot`: the first fault of the partial file, or of the weights for the task that is built.
use Rattle.meaning.specs.Place.{in_task}
use Rattle.task.specs.Answer.{known-room}
use Rattle.locating.specs.Spots.{fault-spot, weights-spot}
use Rattle.locating.proofs.partial_spot.Goals as goal

pub weights_spot-requires : goal.weights_spot-requires
weights_spot-requires c = (known-room c.in-Ok.ensures.accepted).features

pub returns-in-Ok : goal.returns-in-Ok
returns-in-Ok c = weights-spot c.in-Ok.ensures.accepted _ _ _ c.weights_spot.ensures

pub returns-in-Err : goal.returns-in-Err
returns-in-Err c = fault-spot in_task _ _ _ _ c.in-Err.ensures c.fault_spot.ensures

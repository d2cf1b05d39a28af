-- `spot`: a fault of what is read has its place; what is judged of a bay that was read has none.
use Rattle.building.specs.Outcomes.{spot-fault, spot-none}
use Rattle.building.proofs.spot.Goals as goal

pub returns-in-Ok : goal.returns-in-Ok
returns-in-Ok c = spot-none _ _ _ c.in-Ok.ensures.1

pub returns-in-Err : goal.returns-in-Err
returns-in-Err c = spot-fault _ _ _ _ c.in-Err.ensures c.placed.ensures

-- `tell_fault`: the parts of the header, and what is written for each fault.
use Rattle.layout.specs.Parts.{headed-sizes}
use Rattle.keeping.specs.Fault.{FaultIs}
use Rattle.mending.specs.Answer.{headed, lent-ready, fault-is, fault-none, fault-held, fault-unclosed}
use Rattle.mending.proofs.tell_fault.Goals as goal
use Rattle.mending.proofs.tell_fault.Goals.{After-first_fault}

-- What the answer says of the task.
found : (c : After-first_fault) → FaultIs c.requires.0.1.task c.first_fault.result
found c = fault-is c.requires.0.1 _ _ _ c.sizes.ensures c.start.ensures c.pairs.ensures c.first_fault.result c.first_fault.ensures

pub sizes-requires : goal.sizes-requires
sizes-requires c = headed-sizes (headed c.requires.0.1)

pub start-requires : goal.start-requires
start-requires c = headed c.requires.0.1

pub pairs-requires : goal.pairs-requires
pairs-requires c = headed c.requires.0.1

pub first_fault-requires : goal.first_fault-requires
first_fault-requires c = lent-ready c.requires.0.1 _ _ _ c.sizes.ensures c.start.ensures c.pairs.ensures

pub returns-in-None : goal.returns-in-None
returns-in-None c = fault-none c.requires.0.1 c.args.room.now c.requires.1 (rw c.in-None.is at (found (goal.at.returns-in-None c).After-first_fault))

pub returns-in-Some-Held : goal.returns-in-Some-Held
returns-in-Some-Held c = let here = c.in-Some-Held in
    fault-held c.requires.0.1 c.args.room.now c.requires.1 _ (rw (here.is, here.field-0-is) at (found (goal.at.returns-in-Some-Held c).After-first_fault))

pub returns-in-Some-Unclosed : goal.returns-in-Some-Unclosed
returns-in-Some-Unclosed c = let here = c.in-Some-Unclosed in
    fault-unclosed c.requires.0.1 c.args.room.now c.requires.1 _ _ (rw (here.is, here.field-0-is) at (found (goal.at.returns-in-Some-Unclosed c).After-first_fault))

-- `standing`: each turn stores one variable more, and its value.
use Rattle.keeping.specs.Standing.{stored-standing}
use Rattle.keeping.proofs.standing.Goals as goal

pub returns : goal.returns
returns c = (c.requires, stored-standing _ _ _ _ c.loop-i.invariant.0 c.loop-i-test.false)

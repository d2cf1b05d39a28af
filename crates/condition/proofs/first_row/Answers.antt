-- `first_row`: the row is cleared, and the change at the base state is made in it.
use Rattle.condition.specs.Walk.{walk_first}
use Rattle.condition.proofs.first_row.Goals as goal

pub returns : goal.returns
returns c = let (g, t, a, e) = c.requires in λ possible. walk_first g t possible _ c.base_row.ensures

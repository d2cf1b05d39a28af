-- `number_at` reads as many groups as a number may have.
use Rattle.meaning.specs.Number.{number}
use Rattle.number.proofs.number_at.Goals as goal

pub returns : goal.returns
unfolding number
returns c = c.groups_at.ensures

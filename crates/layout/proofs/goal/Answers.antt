-- `layout::goal`: the words lent are the goal's values.
use Rattle.layout.specs.Parts.{lent-goal}
use Rattle.layout.proofs.goal.Goals as goal

pub returns : goal.returns
returns c = lent-goal _ _ _ c.places_for-at.ensures _

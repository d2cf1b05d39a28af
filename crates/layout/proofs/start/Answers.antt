-- `layout::start`: the words lent are the start's values.
use Rattle.layout.specs.Parts.{lent-start}
use Rattle.layout.proofs.start.Goals as goal

pub returns : goal.returns
returns c = lent-start _ _ _ c.places_for-at.ensures _

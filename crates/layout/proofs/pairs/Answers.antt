-- `layout::pairs`: the words lent are the listed pairs.
use Rattle.layout.specs.Parts.{lent-pairs}
use Rattle.layout.proofs.pairs.Goals as goal

pub returns : goal.returns
returns c = lent-pairs _ _ _ c.places_for-at.ensures _

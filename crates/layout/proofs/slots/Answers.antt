-- `layout::slots`: the words lent are the slots.
use Rattle.layout.specs.Parts.{lent-slots}
use Rattle.layout.proofs.slots.Goals as goal

pub returns : goal.returns
returns c = lent-slots _ _ _ c.places_for-at.ensures _

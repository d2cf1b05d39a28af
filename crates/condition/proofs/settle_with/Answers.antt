-- `settle_with`: only the slot area is lent for writing.
use mathlib.Core.Path.{ap, ◌∙◌}
use Rattle.layout.specs.Parts.{lent-slots}
use Rattle.theory.specs.Contents.{slot_words}
use Rattle.slots.specs.Waiting.{settled_in}
use Rattle.condition.specs.Slotted.{area-written}
use Rattle.condition.specs.Later.{settled-written}
use Rattle.condition.proofs.settle_with.Goals as goal

pub returns : goal.returns
returns c = let a = c.args in record {
  words = settled-written a.v a.n a.pending.now a.workspace.now c.settle.new.area _ (area-written a.v a.n _ c.places_for-places.ensures a.workspace.now c.settle.new.area) (c.settle.ensures.words
      ∙ ap (λ area. slot_words a.n (settled_in a.n a.pending.now area)) (lent-slots a.v a.n _ c.places_for-places.ensures a.workspace.now));
  none = c.settle.ensures.none;
}

-- `slots::settle`: where nothing is pending the area has the words already, and so has the set.
use mathlib.Core.Path.{ap, ◌∙◌}
use lib.ListN.{replicate}
use Rattle.slots.specs.Reducing.{zeros_of}
use Rattle.slots.specs.Settling.{settled-already}
use Rattle.slots.proofs.settle.Goals as goal

pub returns-then-is_empty : goal.returns-then-is_empty
returns-then-is_empty c = let h = c.requires.0 in let none = c.is_empty.ensures.yes c.if-is_empty.true in
    record { words = settled-already _ _ _ _ h (λ i l. (c.type_inv.area i).fits) none; none = zeros_of _ _ h.pending-long (λ i l. (c.slice_known-2-1.given i).fits) none }

pub returns : goal.returns
returns c = record { words = c.settle_slots.ensures; none = c.clear.ensures ∙ ap (λ k. replicate k 0) c.requires.0.pending-long }

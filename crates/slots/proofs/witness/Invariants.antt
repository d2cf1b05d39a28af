-- `slots::witness`: each slot is asked for m.
use Rattle.slots.proofs.witness.Given as goal

abbrev pub ghost-mark_slots : goal.ghost-mark_slots
ghost-mark_slots a = λ i. a.feature.0.now

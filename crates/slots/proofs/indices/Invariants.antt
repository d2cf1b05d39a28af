-- `slots::indices`: each slot is asked for its own feature.
use Rattle.slots.proofs.indices.Given as goal

abbrev pub ghost-mark_slots : goal.ghost-mark_slots
ghost-mark_slots a = λ i. i

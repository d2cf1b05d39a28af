-- `weigh`: there is room for the weights of the most features.
use Rattle.layout.specs.Parts.{room-zeros}
use Rattle.task.specs.Answer.{known-room}
use Rattle.checking.proofs.weigh.Goals as goal

pub weigh_within-requires : goal.weigh_within-requires
weigh_within-requires c = (c.requires, room-zeros _ _ (known-room c.requires.2.accepted).features c.words_for-w.ensures)

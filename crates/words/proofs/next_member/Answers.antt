-- `words::next_member`: the words are the set's own.
use Rattle.meaning.specs.Workspace.{has}
use Rattle.words.proofs.next_member.Goals as goal

pub returns : goal.returns
unfolding has
returns c = c.next_held.ensures

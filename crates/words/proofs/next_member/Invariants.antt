-- `words::next_member`: the words are the set's own.
use Rattle.std.proofs.Common.{get_or}
use Rattle.words.proofs.next_member.Given as goal

abbrev pub ghost-next_held : goal.ghost-next_held
ghost-next_held a = λ i. get_or a.word.0.now i 0

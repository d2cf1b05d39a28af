-- `words::next_shared`: the words are what those of two sets have in common.
use Rattle.std.proofs.Common.{get_or}
use Rattle.std.specs.Int.Bits.{bit_and}
use Rattle.words.proofs.next_shared.Given as goal

abbrev pub ghost-next_held : goal.ghost-next_held
ghost-next_held a = λ i. bit_and (get_or a.word.0.now i 0) (get_or a.word.1.now i 0)

-- The measure of `put_word` is the number.
use Rattle.decimal.proofs.+put_word.Given as goal

abbrev pub decreases-put_word : goal.decreases-put_word
decreases-put_word l = l.n

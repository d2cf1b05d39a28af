-- `places_for`: the words of all slots are few enough to count, and each place is the sum that the meaning has.
use native.Mathlib.Omega.{arith}
use Rattle.layout.specs.Places.{slots-few}
use Rattle.layout.proofs.places_for.Goals as goal

pub overflow_mul-result : goal.overflow_mul-result
overflow_mul-result c = rw c.words_for-words.ensures (omega (arith, slots-few c.args.n c.requires.1))

pub overflow_add-result : goal.overflow_add-result
overflow_add-result c = rw c.words_for-words.ensures (omega (arith, c.goal_at-goal.ensures, slots-few c.args.n c.requires.1))

pub returns : goal.returns
returns c = rw (c.words_for-words.ensures, c.start_at-start.ensures, c.goal_at-goal.ensures)

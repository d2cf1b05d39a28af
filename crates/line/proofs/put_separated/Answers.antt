-- `put_separated`: four parts one behind the other, each of them short.
use Prim.Native.Nat.{◌*◌, ◌≤◌}
use native.Mathlib.Omega.{arith}
use lib.ListN.{length}
use Rattle.meaning.specs.Limits.{word_bits, most_program_features}
use Rattle.meaning.specs.Line.{word, words_in}
use Rattle.meaning.specs.Workspace.{has}
use Rattle.words.specs.Members.{members_in, members-few}
use Rattle.decimal.specs.Decimal.{word_width, word-few}
use Rattle.decimal.specs.Members.{words-members-few}
use Rattle.line.specs.Fits.{feature_digits}
use Rattle.line.specs.Text.{separated-put}
use Rattle.line.proofs.put_separated.Goals as goal
use Rattle.line.proofs.put_separated.Goals.{After-count-count}

-- The count and the members are below the most features of the program, so that three digits are enough for each.
count-short : (c : After-count-count) → length (word c.count-count.result) ≤ word_width feature_digits
count-short c =
    let weights = c.args.weights.now in
    word-few feature_digits c.count-count.result (omega arith) (omega (arith, c.requires, c.count-count.ensures, members-few (has weights) (word_bits * length weights)))

features-short : (c : After-count-count) → length (words_in (members_in c.args.weights.now)) ≤ word_width feature_digits * most_program_features
features-short c =
    let weights = c.args.weights.now in
    omega (arith, c.requires, words-members-few (has weights) feature_digits (word_bits * length weights) (omega arith) (omega (arith, c.requires)))

pub put_word-second-requires : goal.put_word-second-requires
put_word-second-requires c = omega (arith, c.put-first.ensures.place, count-short (goal.at.put_word-second-requires c).After-count-count)

pub put_members-third-requires : goal.put_members-third-requires
put_members-third-requires c =
    (omega arith, omega (arith, c.put-first.ensures.place, c.put_word-second.ensures.place, count-short (goal.at.put_members-third-requires c).After-count-count, features-short (goal.at.put_members-third-requires c).After-count-count))

pub put-requires : goal.put-requires
put-requires c =
    omega (arith, c.put-first.ensures.place, c.put_word-second.ensures.place, c.put_members-third.ensures.place, count-short (goal.at.put-requires c).After-count-count, features-short (goal.at.put-requires c).After-count-count)

pub returns : goal.returns
returns c =
    let first = c.put-first.ensures in
    separated-put c.args.weights.now _ c.count-count.ensures (omega (arith, first.place)) first
    c.put_word-second.ensures c.put_members-third.ensures c.put.ensures

-- `put_refused`: four parts one behind the other.
use Prim.Native.Nat.{ℕ, ◌+◌}
use mathlib.Core.Path.{◌≡◌}
use mathlib.Core.List.{List}
use native.Mathlib.Omega.{arith}
use lib.ListN.{length}
use Rattle.meaning.specs.Line.{word, spot_text, refused_line}
use Rattle.placing.specs.Answers.{spot_of}
use Rattle.text.specs.Parts.{refused-put, refused-long}
use Rattle.text.proofs.put_refused.Goals as goal
use Rattle.text.proofs.put_refused.Goals.{Start}

-- How long the line is, by what stands behind its number.
abbrev spoken : (c : Start) → List ℕ
spoken c = spot_text c.args.task.now c.args.weights.now (spot_of c.args.spot)

behind : (c : Start) → length (refused_line c.args.number (spoken c)) ≡ 7 + length (word c.args.number) + length (spoken c) + 1
behind c = refused-long c.args.number (spoken c)

pub put-first-requires : goal.put-first-requires
put-first-requires c = omega (arith, behind (goal.at.put-first-requires c).Start)

pub put_word-second-requires : goal.put_word-second-requires
put_word-second-requires c =
    omega (arith, behind (goal.at.put_word-second-requires c).Start, c.put-first.ensures.place)

pub put_spot-third-requires : goal.put_spot-third-requires
put_spot-third-requires c =
    omega (arith, behind (goal.at.put_spot-third-requires c).Start, c.put-first.ensures.place, c.put_word-second.ensures.place)

pub put-requires : goal.put-requires
put-requires c =
    omega (arith, behind (goal.at.put-requires c).Start, c.put-first.ensures.place, c.put_word-second.ensures.place, c.put_spot-third.ensures.place)

pub returns : goal.returns
returns c =
    let text = behind (goal.at.returns c).Start in
    let one = c.put-first.ensures in
    let two = c.put_word-second.ensures in
    let three = c.put_spot-third.ensures in
    refused-put _ _ (omega (arith, text, one.place)) (omega (arith, text, one.place, two.place)) one two three c.put.ensures

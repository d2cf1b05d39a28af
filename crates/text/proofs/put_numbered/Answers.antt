-- `put_numbered`: three parts one behind the other.
use native.Mathlib.Omega.{arith}
use Rattle.text.specs.Parts.{numbered-put}
use Rattle.text.proofs.put_numbered.Goals as goal

pub returns : goal.returns
returns c =
    let number = c.args.number in
    let first = c.put-first.ensures in
    numbered-put _ number (omega (arith, first.place)) first c.put_word-second.ensures c.put.ensures

-- `words::odd_shared`: the bits of the sum have the parity of what is shared in the words that are done (`Parity`).
use Rattle.std.proofs.Common.{length}
use Rattle.words.specs.Parity.{Parity}
use Rattle.words.proofs.odd_shared.Given as goal

abbrev pub invariant-loop-x : goal.invariant-loop-x
invariant-loop-x l = Parity l.a l.b (length l.yielded) l.sum

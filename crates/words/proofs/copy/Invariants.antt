-- `words::copy`: the loop writes the other list from the front (`Written`).
use Rattle.words.specs.Written.{Written}
use Rattle.words.proofs.copy.Given as goal

abbrev pub invariant-loop-i : goal.invariant-loop-i
invariant-loop-i l = Written l.initial.into l.from l.i l.into

-- `words::add`: the loop writes `summed` from the front (`Written`); each word that it reads is still that of before.
use Rattle.words.specs.Change.{summed}
use Rattle.words.specs.Written.{Written}
use Rattle.words.proofs.add.Given as goal

abbrev pub invariant-loop-i : goal.invariant-loop-i
invariant-loop-i l = Written l.initial.into (summed l.initial.into l.from) l.i l.into

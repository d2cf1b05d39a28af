-- `mark_unclosed`: below the place of the walk all that is unclosed is marked; the pair there is unclosed.
use Rattle.pairs.specs.Walk.{pairs_left}
use Rattle.keeping.specs.Marks.{Marking}
use Rattle.keeping.proofs.mark_unclosed.Given as goal

abbrev pub invariant-loop-unclosed : goal.invariant-loop-unclosed
invariant-loop-unclosed l = Marking l.tabled.sizes.now l.tabled.pairs.now l.tabled.entries.now l.initial.touched l.unclosed l.gone l.touched

abbrev pub decreases-loop-unclosed : goal.decreases-loop-unclosed
decreases-loop-unclosed l = pairs_left l.end l.unclosed

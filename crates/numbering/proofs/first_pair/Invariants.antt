-- `first_pair` meets its contract: at each turn only the pairs of the variables before k are not counted, and all sums stay small.
use Rattle.numbering.specs.Blocks.{Counted}
use Rattle.numbering.proofs.first_pair.Given as goal

abbrev pub invariant-loop-k : goal.invariant-loop-k
invariant-loop-k l = Counted l.sizes l.i l.j l.k l.behind l.pairs

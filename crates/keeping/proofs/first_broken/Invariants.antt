-- `first_broken`: the list is closed under the operators that the walk has passed.
use Rattle.meaning.specs.Task.{Task}
use Rattle.keeping.specs.Pass.{OperatorsAt}
use Rattle.keeping.specs.Fault.{ClosedTo}
use Rattle.keeping.proofs.first_broken.Given as goal

abbrev pub invariant-loop-k : goal.invariant-loop-k
invariant-loop-k l = (T : Task) (stands : OperatorsAt T l.sizes l.bytes l.at l.count) → ClosedTo T l.sizes l.bytes l.at l.count stands l.pairs l.k l.next

-- `pass`: after k operators nothing that went is in a good sublist, and the operators that were passed need not be judged again unless a before atom is touched.
use Rattle.keeping.specs.Pass.{PassBy}
use Rattle.keeping.proofs.pass.Given as goal

abbrev pub invariant-loop : goal.invariant-loop
invariant-loop l = PassBy l.sizes l.bytes l.at l.count l.all l.old l.initial.pairs l.counter l.next l.pairs l.touched l.dropped

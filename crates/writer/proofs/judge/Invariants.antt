-- `judge` finds the first fault: at each turn what is left of the list, from the least that is allowed, is judged as the whole list is.
use mathlib.Core.Path.{◌≡◌}
use lib.ListN.{drop}
use Rattle.writer.specs.Weights.{weights_judged}
use Rattle.writer.proofs.judge.Given as goal

abbrev pub invariant-loop-weight : goal.invariant-loop-weight
invariant-loop-weight l = weights_judged 0 l.weights ≡ weights_judged l.least (drop l.weight-index l.weights)

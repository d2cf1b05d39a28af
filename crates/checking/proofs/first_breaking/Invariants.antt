-- `first_breaking`: the operators passed so far are allowed, and those that are left lead to the same place.
use Prim.Native.Nat.{◌-◌}
use mathlib.Core.Path.{◌≡◌}
use Rattle.meaning.specs.Workspace.{has}
use Rattle.operator.specs.Fold.{walked}
use Rattle.checking.specs.Breaking.{passed, searched}
use Rattle.checking.proofs.first_breaking.Given as goal

abbrev pub invariant-loop-k : goal.invariant-loop-k
invariant-loop-k l = walked (searched l.sizes (has l.pairs) (has l.weights)) l.sizes l.count l.bytes l.at (passed 0)
    ≡ walked (searched l.sizes (has l.pairs) (has l.weights)) l.sizes (l.count - l.k) l.bytes l.next (passed l.k)

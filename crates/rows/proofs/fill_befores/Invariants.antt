-- `fill_befores` meets its contract: after k turns the before values of the first k entries are put in.
use mathlib.Core.Path.{◌≡◌}
use Rattle.rows.specs.Base.{with_befores}
use Rattle.rows.proofs.fill_befores.Given as goal

abbrev pub invariant-loop-k : goal.invariant-loop-k
invariant-loop-k l = l.base ≡ with_befores l.k l.entries l.initial.base

-- `named`: none of the entries so far is the variable's.
use Rattle.std.proofs.Common.{ℕ, ◌≡◌, ◌<◌}
use Rattle.theory.specs.Walk.{entry_at}
use Rattle.operator.proofs.Entries.named.Given as goal

abbrev pub invariant-loop-k : goal.invariant-loop-k
invariant-loop-k l = (i : ℕ) → i < l.k → (entry_at l.self i).variable ≡ l.u → ⊥

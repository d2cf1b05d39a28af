-- `toggle_apart` meets its contract: after k turns what the two values change with the first k entries is toggled.
use mathlib.Core.Path.{◌≡◌}
use Rattle.meaning.specs.Sets.{flat}
use Rattle.theory.specs.Walk.{entry_at}
use Rattle.rows.specs.Change.{values_both}
use Rattle.words.specs.Toggled.{toggled_all}
use Rattle.rows.proofs.toggle_apart.Given as goal

abbrev pub invariant-loop-k : goal.invariant-loop-k
invariant-loop-k l = l.row ≡ toggled_all l.initial.row (flat l.k (λ k. values_both l.sizes l.u l.x l.y (entry_at l.entries k)))

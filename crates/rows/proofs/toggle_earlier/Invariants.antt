-- `toggle_earlier` meets its contract: after k turns what the entry changes with the first k entries is toggled.
use mathlib.Core.Path.{◌≡◌}
use Rattle.meaning.specs.Sets.{flat}
use Rattle.theory.specs.Walk.{entry_at}
use Rattle.rows.specs.Change.{moved_both}
use Rattle.words.specs.Toggled.{toggled_all}
use Rattle.rows.proofs.toggle_earlier.Given as goal

abbrev pub invariant-loop-k : goal.invariant-loop-k
invariant-loop-k l = l.row ≡ toggled_all l.initial.row (flat l.k (λ k. moved_both l.sizes (entry_at l.entries k) (entry_at l.entries l.l)))

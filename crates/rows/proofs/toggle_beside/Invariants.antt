-- `toggle_beside` meets its contract: after k turns what the first k entries change is toggled.
use mathlib.Core.Path.{◌≡◌}
use Rattle.meaning.specs.Sets.{flat}
use Rattle.theory.specs.Walk.{entry_at}
use Rattle.rows.specs.Change.{moved_both, stays}
use Rattle.words.specs.Toggled.{toggled_all}
use Rattle.rows.proofs.toggle_beside.Given as goal

abbrev pub invariant-loop-k : goal.invariant-loop-k
invariant-loop-k l = l.row ≡ toggled_all l.initial.row (flat l.k (λ k. moved_both l.sizes (stays l.u l.y) (entry_at l.entries k)))

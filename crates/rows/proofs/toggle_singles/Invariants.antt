-- `toggle_singles` meets its contract: after k turns the atoms of the first k entries are toggled.
use mathlib.Core.Path.{◌≡◌}
use Rattle.meaning.specs.Sets.{flat}
use Rattle.meaning.specs.Feature.{single}
use Rattle.theory.specs.Walk.{entry_at, turned}
use Rattle.words.specs.Toggled.{toggled_all}
use Rattle.rows.proofs.toggle_singles.Given as goal

abbrev pub invariant-loop-k : goal.invariant-loop-k
invariant-loop-k l = l.row ≡ toggled_all l.initial.row (flat l.k (λ k. turned (single l.sizes) (entry_at l.entries k)))

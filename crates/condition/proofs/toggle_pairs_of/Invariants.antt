-- `toggle_pairs_of`: after i turns the pairs of variable j's atom with those of the first i variables are toggled.
use mathlib.Core.Path.{◌≡◌}
use mathlib.Core.List.{[], ◌∷◌}
use Rattle.meaning.specs.Sets.{flat}
use Rattle.meaning.specs.Task.{value}
use Rattle.meaning.specs.Feature.{both}
use Rattle.words.specs.Toggled.{toggled_all}
use Rattle.condition.proofs.toggle_pairs_of.Given as goal

abbrev pub invariant-loop-i : goal.invariant-loop-i
invariant-loop-i l = l.row ≡ toggled_all l.initial.row (flat l.i (λ k. both l.sizes k (value l.state k) l.j (value l.state l.j) ∷ []))

-- `toggle_atoms`: after i turns the atoms of the first i variables are toggled.
use mathlib.Core.Path.{◌≡◌}
use mathlib.Core.List.{[], ◌∷◌}
use Rattle.meaning.specs.Sets.{flat}
use Rattle.meaning.specs.Task.{value}
use Rattle.meaning.specs.Feature.{single}
use Rattle.words.specs.Toggled.{toggled_all}
use Rattle.condition.proofs.toggle_atoms.Given as goal

abbrev pub invariant-loop-i : goal.invariant-loop-i
invariant-loop-i l = l.row ≡ toggled_all l.initial.row (flat l.i (λ k. single l.sizes k (value l.state k) ∷ []))

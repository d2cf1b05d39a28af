-- `toggle_pairs`: after j turns the pairs among the first j variables are toggled.
use mathlib.Core.Path.{◌≡◌}
use Rattle.meaning.specs.Sets.{flat}
use Rattle.words.specs.Toggled.{toggled_all}
use Rattle.condition.specs.Ends.{true_pairs_of}
use Rattle.condition.proofs.toggle_pairs.Given as goal

abbrev pub invariant-loop-j : goal.invariant-loop-j
invariant-loop-j l = l.row ≡ toggled_all l.initial.row (flat l.j (true_pairs_of l.sizes l.state))

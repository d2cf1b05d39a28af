-- `toggle_doubles` meets its contract: after l turns what the first l entries change two by two is toggled.
use mathlib.Core.Path.{◌≡◌}
use Rattle.meaning.specs.Sets.{flat}
use Rattle.rows.specs.Change.{earlier_features}
use Rattle.words.specs.Toggled.{toggled_all}
use Rattle.rows.proofs.toggle_doubles.Given as goal

abbrev pub invariant-loop-l : goal.invariant-loop-l
invariant-loop-l l = l.row ≡ toggled_all l.initial.row (flat l.l (earlier_features l.sizes l.entries))

-- `toggle_unnamed` meets its contract: after u turns what the first u variables change is toggled.
use mathlib.Core.Path.{◌≡◌}
use Rattle.meaning.specs.Sets.{flat}
use Rattle.rows.specs.Change.{unnamed_features}
use Rattle.words.specs.Toggled.{toggled_all}
use Rattle.rows.proofs.toggle_unnamed.Given as goal

abbrev pub invariant-loop-u : goal.invariant-loop-u
invariant-loop-u l = l.row ≡ toggled_all l.initial.row (flat l.u (unnamed_features l.sizes l.entries l.base))

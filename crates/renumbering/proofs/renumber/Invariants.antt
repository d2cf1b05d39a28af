-- `renumber`: after each variable, the pairs with those before as the first are in.
use mathlib.Core.Path.{◌≡◌}
use Rattle.meaning.specs.Workspace.{has}
use Rattle.meaning.specs.Sets.{flat}
use Rattle.words.specs.Toggled.{toggled_all}
use Rattle.renumbering.specs.Pairs.{row_pairs}
use Rattle.renumbering.proofs.renumber.Given as goal

abbrev pub invariant-loop-i : goal.invariant-loop-i
invariant-loop-i l = l.new ≡ toggled_all l.initial.new (flat l.i (row_pairs l.sizes (has l.old)))

-- `renumber_row`: after each second variable, the pairs with those before are in.
use mathlib.Core.Path.{◌≡◌}
use Rattle.meaning.specs.Workspace.{has}
use Rattle.meaning.specs.Sets.{flat}
use Rattle.words.specs.Toggled.{toggled_all}
use Rattle.renumbering.specs.Pairs.{block_pairs}
use Rattle.renumbering.proofs.renumber_row.Given as goal

abbrev pub invariant-loop-j : goal.invariant-loop-j
invariant-loop-j l = l.new ≡ toggled_all l.initial.new (flat l.j (block_pairs l.sizes (has l.old) l.i))

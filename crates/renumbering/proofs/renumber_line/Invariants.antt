-- `renumber_line`: after each value of the second variable, the pairs with those before are in.
use mathlib.Core.Path.{◌≡◌}
use Rattle.meaning.specs.Workspace.{has}
use Rattle.meaning.specs.Sets.{flat}
use Rattle.numbering.specs.Planes.{number_in}
use Rattle.words.specs.Toggled.{toggled_all}
use Rattle.renumbering.specs.Pairs.{number_if}
use Rattle.renumbering.proofs.renumber_line.Given as goal

abbrev pub invariant-loop-y : goal.invariant-loop-y
invariant-loop-y l = l.new ≡ toggled_all l.initial.new (flat l.y (λ b. number_if (has l.old (number_in l.from l.x b)) (number_in l.to l.x b)))

-- `renumber_block`: after each value of the first variable, the lines of those before are in.
use mathlib.Core.Path.{◌≡◌}
use Rattle.meaning.specs.Workspace.{has}
use Rattle.meaning.specs.Sets.{flat}
use Rattle.words.specs.Toggled.{toggled_all}
use Rattle.renumbering.specs.Pairs.{line_pairs}
use Rattle.renumbering.proofs.renumber_block.Given as goal

abbrev pub invariant-loop-x : goal.invariant-loop-x
invariant-loop-x l = l.new ≡ toggled_all l.initial.new (flat l.x (λ a. line_pairs (has l.old) l.from l.to a l.end))

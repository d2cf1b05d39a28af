-- `mark_slots` marks the pairs of two slots at each turn: after k turns those with the first k slots as the second.
use mathlib.Core.Path.{◌≡◌}
use lib.ListN.{length}
use Rattle.meaning.specs.Sets.{flat}
use Rattle.words.specs.Toggled.{toggled_all}
use Rattle.sliding.specs.Parts.{label_pairs}
use Rattle.sliding.proofs.mark_slots.Given as goal

abbrev pub invariant-loop-j : goal.invariant-loop-j
invariant-loop-j l = l.pairs ≡ toggled_all l.initial.pairs (flat l.j (label_pairs (length l.sizes) l.start l.i))

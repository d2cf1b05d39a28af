-- `mark_pairs` marks the pairs of a first slot at each turn: after k turns those with the first k slots as the first.
use mathlib.Core.Path.{◌≡◌}
use lib.ListN.{length}
use Rattle.meaning.specs.Sets.{flat}
use Rattle.words.specs.Toggled.{toggled_all}
use Rattle.sliding.specs.Parts.{slot_pairs}
use Rattle.sliding.proofs.mark_pairs.Given as goal

abbrev pub invariant-loop-i : goal.invariant-loop-i
invariant-loop-i l = l.pairs ≡ toggled_all l.initial.pairs (flat l.i (slot_pairs (length l.sizes) l.start))

-- `mark_labels` marks the pair of a label at each turn: after k turns those of the first k labels.
use mathlib.Core.Path.{◌≡◌}
use lib.ListN.{length}
use Rattle.meaning.specs.Sets.{flat}
use Rattle.words.specs.Toggled.{toggled_all}
use Rattle.sliding.specs.Parts.{label_pair}
use Rattle.sliding.proofs.mark_labels.Given as goal

abbrev pub invariant-loop-label : goal.invariant-loop-label
invariant-loop-label l = l.pairs ≡ toggled_all l.initial.pairs (flat l.label (label_pair (length l.sizes) l.start l.i l.j))

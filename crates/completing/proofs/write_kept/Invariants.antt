-- `write_kept`: the walk stands at one that is kept, or at the end, and from it on they are still to be written.
use Rattle.completing.specs.Parts.{Writing, left_from}
use Rattle.completing.proofs.write_kept.Given as goal

abbrev pub invariant-loop-next : goal.invariant-loop-next
invariant-loop-next l = Writing l.sizes l.pairs l.goal l.lean l.initial.room l.at l.room l.end l.next

abbrev pub decreases-loop-next : goal.decreases-loop-next
decreases-loop-next l = left_from l.sizes l.pairs l.goal l.lean l.next

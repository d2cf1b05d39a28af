-- `are_closed`: the operators that are left decide as all of them do; none of the listed pairs that the walk has passed is unclosed under an operator that is not idle.
use Rattle.std.proofs.Common.{◌≡◌, ◌-◌, true, length}
use Rattle.meaning.specs.Limits.{most_atoms}
use Rattle.meaning.specs.Feature.{atoms}
use Rattle.meaning.specs.Workspace.{words_for, has}
use Rattle.pairs.specs.Walk.{Reached, place_in}
use Rattle.operator.specs.Fold.{walked}
use Rattle.task.specs.Walk.{closed_also, closed_from}
use Rattle.task.proofs.are_closed.Given as goal

-- The entries stand third in what is tabled.
abbrev pub invariant-loop-listed : goal.invariant-loop-listed
invariant-loop-listed l =
    let entries = l.tabled.1.1.0.now in
    (l.closed ≡ true) × Reached l.sizes l.pairs entries (atoms l.sizes) l.listed

abbrev pub decreases-loop-listed : goal.decreases-loop-listed
decreases-loop-listed l = l.end - place_in l.sizes l.listed

abbrev pub invariant-walk : goal.invariant-walk
invariant-walk l =
    (l.closed ≡ true) × (length l.possible ≡ words_for most_atoms)
    × (closed_from l.sizes (has l.pairs) l.count l.bytes l.at ≡ walked (closed_also l.sizes (has l.pairs)) l.sizes (l.count - l.judged) l.bytes l.next true)

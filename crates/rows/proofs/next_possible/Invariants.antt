-- `next_possible` meets its contract: from y on and below x no value is possible.
use Rattle.meaning.specs.Workspace.{has}
use Rattle.words.specs.Next.{Clear}
use Rattle.rows.specs.Base.{atoms_at}
use Rattle.rows.proofs.next_possible.Given as goal

abbrev pub invariant-loop-x : goal.invariant-loop-x
invariant-loop-x l = Clear (atoms_at l.sizes (has l.possible) l.u) l.y l.x

-- `looks`: no entry need be looked at where no pair is listed, and all are enough.
use Rattle.std.proofs.Math.Seq.{take-length}
use Rattle.meaning.specs.Workspace.{has}
use Rattle.pairs.specs.None.{all-suffice, none-suffices}
use Rattle.pairs.proofs.looks.Goals as goal
use Rattle.pairs.proofs.looks.Goals.{then-is_empty, else-is_empty}

pub returns : goal.returns
returns c = let o = c.args.entries.now in let p = has c.args.pairs.now in elim c.if-is_empty.branch [
  | then-is_empty w ↦ rw (c.first.ensures, w.count-is) (none-suffices _ (c.is_empty.ensures.yes w.if-is_empty.true) o)
  | else-is_empty w ↦ rw (c.first.ensures, w.count-is, w.len-count.ensures, take-length o) (all-suffice p o)
]

-- `layout::sizes`: the words lent are the sizes.
use Rattle.meaning.specs.Workspace.{sizes_at}
use Rattle.layout.specs.Parts.{lent}
use Rattle.layout.proofs.sizes.Goals as goal

pub returns : goal.returns
returns c = let a = c.args in rw c.start_at.ensures (lent sizes_at a.v a.workspace.now)

-- `settle`: pairs become fewer from pass to pass, or there is no further one.
use Rattle.std.proofs.Common.{◌≡◌, length}
use Rattle.meaning.specs.Sets.{count}
use Rattle.meaning.specs.Limits.{most_atoms}
use Rattle.meaning.specs.Feature.{features}
use Rattle.meaning.specs.Workspace.{has, words_for}
use Rattle.keeping.specs.Pass.{SettledTo}
use Rattle.keeping.proofs.settle.Given as goal

abbrev pub invariant-loop-fresh : goal.invariant-loop-fresh
invariant-loop-fresh l = SettledTo l.sizes l.bytes l.at l.count l.initial.pairs l.first l.touched l.pairs × (length l.touched ≡ words_for most_atoms)

abbrev pub decreases-loop-fresh : goal.decreases-loop-fresh
decreases-loop-fresh l = count (features l.sizes) (has l.pairs)

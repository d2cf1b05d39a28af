-- `is_paired`: the number of the two atoms is below N, so it is within the words that are due.
use mathlib.Core.Path.{ap, ◌∙◌}
use native.Mathlib.Omega.{arith}
use Rattle.meaning.specs.Pair.{paired}
use Rattle.meaning.specs.Workspace.{has}
use Rattle.numbering.specs.Sizes.{limits-small}
use Rattle.pairs.specs.Ready.{both-room}
use Rattle.pairs.proofs.is_paired.Goals as goal

pub both-requires : goal.both-requires
both-requires c = let (h, d, i, j, x, y) = c.requires in (limits-small _ h.limits, d, i, j, x, y)

pub has-requires : goal.has-requires
has-requires c = let (h, d, i, j, x, y) = c.requires in omega (arith, c.both.ensures, both-room _ _ _ _ _ _ h d x y)

pub returns : goal.returns
unfolding paired
returns c = c.has.ensures ∙ ap (has _) c.both.ensures

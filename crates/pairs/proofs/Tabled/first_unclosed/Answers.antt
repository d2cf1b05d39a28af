-- `first_unclosed`: the walk begins at the first listed pair.
use Rattle.pairs.specs.Walk.{reached-first}
use Rattle.pairs.proofs.Tabled.first_unclosed.Goals as goal

pub returns : goal.returns
returns c = (c.unclosed_from.ensures.0 _ (reached-first _ _ _ _ _ c.first_pair.ensures), c.unclosed_from.ensures.1)

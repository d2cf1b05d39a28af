-- `holds_at`: the values of none of the earlier variables are found to be paired with it.
use Rattle.std.proofs.Common.{rules, tests}
use Rattle.meaning.specs.Task.{value}
use Rattle.meaning.specs.Workspace.{has}
use Rattle.meaning.specs.Pair.{paired}
use Rattle.pairs.proofs.Chains.{any-below}
use Rattle.pairs.proofs.holds_at.Goals as goal

pub returns : goal.returns
returns c = let a = c.args in
    any-below (λ i. paired a.sizes.now (has a.pairs.now) i (value a.state.now i) a.j (value a.state.now a.j)) a.j c.any.ensures.ran (cc) (λ x b q k. search (rules, tests))

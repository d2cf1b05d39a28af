-- `atoms`: the sum of the sizes.
use Rattle.std.specs.Prelude.{◌≡◌, ◌<◌, ◌^◌, sum}
use Rattle.std.proofs.Common.{rules, arith, ◌∙◌}
use Rattle.std.proofs.iter.runs.Made.{chains}
use Rattle.numbering.specs.Sizes.{atoms-small}
use Rattle.numbering.specs.Sums.{sum-atoms}
use Rattle.numbering.proofs.atoms.Goals as goal

pub sum-requires-clause-fits : goal.sum-requires-clause-fits
sum-requires-clause-fits c = let fits : sum c.args.sizes.now < 2 ^ 64 = omega (arith, sum-atoms c.args.sizes.now, atoms-small _ c.requires) in search (rules, chains)

pub returns : goal.returns
returns c = let e : c.sum.result ≡ sum c.args.sizes.now = search (rules, chains) in e ∙ sum-atoms _

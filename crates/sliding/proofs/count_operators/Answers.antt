-- `count_operators` multiplies two counts: the product is a count of operators, so it is small.
use Prim.Native.Nat.{◌*◌}
use mathlib.Core.Path.{ap₂, ◌∙◌}
use native.Mathlib.Omega.{arith}
use Rattle.sliding.specs.Counts.{operators-counted, operators-few}
use Rattle.sliding.proofs.count_operators.Goals as goal

pub returns : goal.returns
returns c =
    ap₂ ◌*◌ c.count_places.ensures c.count_lots.ensures ∙ operators-counted c.args.near.now c.args.start.now c.requires

pub overflow_mul-result : goal.overflow_mul-result
overflow_mul-result c =
    omega (arith, returns c, operators-few c.args.near.now c.args.start.now c.requires)

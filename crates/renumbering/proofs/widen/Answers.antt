-- `widen`: one size more stands there.
use Rattle.std.proofs.Common.{arith}
use Rattle.std.proofs.lemmas.Grind.{common_steps}
use Rattle.theory.specs.PartialPairs.{built-length, built-size}
use Rattle.renumbering.proofs.widen.Goals as goal

pub loop-i-preserved : goal.loop-i-preserved
loop-i-preserved c = grind (arith, common_steps, built-length c.args.sizes.now, built-size c.args.sizes.now c.loop-i.i)

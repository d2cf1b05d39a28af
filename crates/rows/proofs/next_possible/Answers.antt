-- `next_possible` meets its contract: from y on and below x no value is possible.
use native.Mathlib.Omega.{arith}
use Rattle.theory.specs.Numbering.{single-below}
use Rattle.rows.proofs.next_possible.Goals as goal

pub has-requires : goal.has-requires
has-requires c = omega (arith, c.single.ensures, c.requires.1, single-below c.args.sizes.now c.args.u c.loop-x.x (omega (arith, c.size-x-end.ensures)))

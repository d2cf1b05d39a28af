-- `width` counts the bytes of a number: at each turn as many are counted as the number has bytes more than what is left of it.
use mathlib.Core.Path.{ap}
use native.Mathlib.Omega.{arith}
use lib.ListN.{length}
use Rattle.theory.specs.NumberBack.{number-bytes-length}
use Rattle.number.specs.Laws.{spelled-number, spelled-one, spelled-more}
use Rattle.number.proofs.width.Goals as goal

pub loop-left-init : goal.loop-left-init
loop-left-init c = (_, spelled-number _ c.requires, omega arith)

pub overflow_add-count : goal.overflow_add-count
overflow_add-count c = omega (arith, c.loop-left.invariant.2, number-bytes-length c.args.n)

pub loop-left-preserved : goal.loop-left-preserved
loop-left-preserved c =
    let inv = c.loop-left.invariant in
    let further = spelled-more _ _ inv.1 c.loop-left-test.true in
    (further.rest, further.spelled, omega (arith, inv.2, ap length further.split))

pub returns : goal.returns
returns c = let inv = c.loop-left.invariant in omega (arith, inv.2, ap length (spelled-one _ _ inv.1 c.loop-left-test.false))

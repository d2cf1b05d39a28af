-- `numbers_on` meets its contract: after each turn the numbers that are still to be passed over lead from the place reached to where all would.
use Rattle.std.proofs.Common.{sym, ◌∙◌}
use native.Mathlib.Nat.{sub-zero}
use Rattle.number.specs.Laws.{on_none, on-more, on-fault}
use Rattle.number.proofs.numbers_on.Goals as goal

pub loop-init : goal.loop-init
loop-init c = simp sub-zero

pub returns-in-Err : goal.returns-in-Err
returns-in-Err c = sym (c.loop.invariant ∙ on-fault _ _ _ _ _ _ c.loop-test.true (sym c.in-Err.ensures))

pub loop-preserved : goal.loop-preserved
loop-preserved c = c.loop.invariant ∙ on-more _ _ _ _ _ _ c.loop-test.true (sym c.in-Ok.ensures)

pub returns : goal.returns
returns c = sym (c.loop.invariant ∙ on_none _ _ _ _ c.loop-test.false)

-- `next_wanted` meets its contract: where the next possible value is the base value, the one after it.
use Rattle.rows.specs.Apart.{next-none, next-other, next-after}
use Rattle.rows.proofs.next_wanted.Goals as goal

pub returns-in_err-x : goal.returns-in_err-x
returns-in_err-x c = rw c.from_residual.ensures (next-none _ _ _ _ _ _ c.in_err-x.ensures)

pub returns-then-x-base : goal.returns-then-x-base
returns-then-x-base c = next-after _ _ _ _ _ _ _ _ c.in_ok-x.ensures c.if-x-base.true c.next_possible-then-x-base.ensures

pub returns : goal.returns
returns c = next-other _ _ _ _ _ _ _ c.in_ok-x.ensures c.if-x-base.false

-- `read_sides` reads both sides and judges their product, which is placed at the columns.
use Rattle.std.proofs.lemmas.Result.{err_from_is_err_and}
use mathlib.Core.Path.{sym}
use native.Mathlib.Omega.{arith}
use Rattle.building.specs.Outcomes.{rows-fault, columns-fault, slots-product, few-slots, many-slots, sides-read}
use Rattle.building.proofs.read_sides.Goals as goal

pub overflow_mul-n : goal.overflow_mul-n
overflow_mul-n c = omega (arith, slots-product _ _ _ (sym c.in_ok-rows.ensures) _ _ (sym c.in_ok-columns.ensures))

pub returns-then-n-lt-LEAST_SLOTS : goal.returns-then-n-lt-LEAST_SLOTS
returns-then-n-lt-LEAST_SLOTS c = few-slots _ _ _ (sym c.in_ok-rows.ensures) _ _ (sym c.in_ok-columns.ensures) c.if-n-lt-LEAST_SLOTS.true

pub returns-then-n-gt-MOST_SLOTS : goal.returns-then-n-gt-MOST_SLOTS
returns-then-n-gt-MOST_SLOTS c = many-slots _ _ _ (sym c.in_ok-rows.ensures) _ _ (sym c.in_ok-columns.ensures) c.if-n-lt-LEAST_SLOTS.false c.if-n-gt-MOST_SLOTS.true

pub returns : goal.returns
returns c = sides-read _ _ _ (sym c.in_ok-rows.ensures) _ _ (sym c.in_ok-columns.ensures) c.if-n-lt-LEAST_SLOTS.false c.if-n-gt-MOST_SLOTS.false

pub returns-in_err-columns : goal.returns-in_err-columns
returns-in_err-columns c = let p = err_from_is_err_and c.from_residual-in_err-columns.result c.from_residual-in_err-columns.ensures.1 in
    rw (p.1, p.2) (columns-fault _ _ _ (sym c.in_ok-rows.ensures) _ _ (sym c.in_err-columns.ensures))

pub returns-in_err-rows : goal.returns-in_err-rows
returns-in_err-rows c = let p = err_from_is_err_and c.from_residual.result c.from_residual.ensures.1 in rw (p.1, p.2) (rows-fault _ _ _ (sym c.in_err-rows.ensures))

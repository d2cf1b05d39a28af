-- `read_bay` reads the sides, and the labels behind them into the front of two arrays.
use Rattle.std.proofs.Common.{rules, arith}
use Rattle.std.proofs.lemmas.Result.{err_from_is_err_and}
use Prim.Native.Nat.{◌*◌}
use mathlib.Core.Path.{◌≡◌}
use lib.ListN.{replicate}
use Rattle.meaning.specs.Limits.{most_slots}
use Rattle.theory.specs.Flat.{take-replicate}
use Rattle.building.specs.Outcomes.{sides-few, sides-unread, labels-unread, bay-read}
use Rattle.building.proofs.read_bay.Goals as goal

pub overflow_mul-n : goal.overflow_mul-n
overflow_mul-n c = omega (arith, sides-few _ _ _ _ c.in_ok-sides.ensures)

pub slice_bounds-read_labels-end : goal.slice_bounds-read_labels-end
slice_bounds-read_labels-end c = sides-few _ _ _ _ c.in_ok-sides.ensures

pub read_labels-requires : goal.read_labels-requires
read_labels-requires c =
    let few = sides-few _ _ _ _ c.in_ok-sides.ensures in
    let n = c.in_ok-sides.sides.rows * c.in_ok-sides.sides.columns in
    let start : c.fill.new.self ≡ replicate most_slots n = search rules in
    let goal : c.fill-2.new.self ≡ replicate most_slots n = search rules in
    (rw start (take-replicate _ most_slots _ few), rw goal (take-replicate _ most_slots _ few))

pub returns : goal.returns
returns c = (_, bay-read _ _ _ _ c.in_ok-sides.ensures _ _ _ _ _ c.in_ok-read_labels.ensures)

pub returns-in_err-read_labels : goal.returns-in_err-read_labels
returns-in_err-read_labels c = let p = err_from_is_err_and c.from_residual-in_err-read_labels.result c.from_residual-in_err-read_labels.ensures.1 in
    rw (p.1, p.2) (labels-unread _ _ _ _ c.in_ok-sides.ensures _ _ c.in_err-read_labels.ensures)

pub returns-in_err-sides : goal.returns-in_err-sides
returns-in_err-sides c = let p = err_from_is_err_and c.from_residual.result c.from_residual.ensures.1 in rw (p.1, p.2) (sides-unread _ _ _ c.in_err-sides.ensures)

-- `read_operator` reads the entry count, which is in its range, and then so many entries.
use Rattle.std.proofs.Common.{ℕ, suc, ◌≡◌, List, sym, arith, length, add-one}
use Rattle.std.proofs.lemmas.Result.{err_from_is_err_and}
use Rattle.meaning.specs.Number.{Range, Read, got}
use Rattle.meaning.specs.File.{inside, item, operator_of}
use Rattle.theory.specs.Parts.{item-said}
use Rattle.operator.proofs.read_operator.Goals as goal
use Rattle.operator.proofs.read_operator.Goals.{In_ok-count}

-- The count that stands at a place.
abbrev count_at : List ℕ → List ℕ → ℕ → Read ℕ
count_at sizes bytes at = item (inside 1 (suc (length sizes))) Range bytes at

-- The count that was read.
count : (c : In_ok-count) → let a = c.args in count_at a.sizes.now a.bytes.now a.at ≡ got c.in_ok-count.count.value c.in_ok-count.count.next
count c = sym (simp add-one at c.in_ok-count.ensures)

pub read_entries-requires : goal.read_entries-requires
read_entries-requires c = (omega arith, omega (arith, ((item-said _ _ _ _).gives _ _ _ (count c)).known.1))

pub returns : goal.returns
unfolding operator_of
returns c = simp (count (goal.at.returns c).In_ok-count) c.read_entries.ensures

pub returns-in_err-count : goal.returns-in_err-count
unfolding operator_of
returns-in_err-count c =
    let p = err_from_is_err_and c.from_residual.result c.from_residual.ensures.1 in
    rw (p.1, p.2) (simp (sym (simp add-one at c.in_err-count.ensures)))

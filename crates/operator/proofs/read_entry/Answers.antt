-- `read_entry` answers by the three numbers that are read in turn; the variable is in its range, so it has a size.
use Rattle.std.proofs.Common.{◌≡◌, ◌<◌, sym, arith, length}
use Rattle.std.proofs.lemmas.Result.{err_from_is_err_and}
use Rattle.meaning.specs.Number.{Range, got}
use Rattle.meaning.specs.Task.{size}
use Rattle.meaning.specs.File.{inside, item, rising, entries_of}
use Rattle.theory.specs.Parts.{rising-said}
use Rattle.operator.proofs.read_entry.Goals as goal
use Rattle.operator.proofs.read_entry.Goals.{In_ok-variable, In_ok-before}

-- The variable that was read, and that it is one.
variable : (c : In_ok-variable) → let a = c.args in rising 0 (length a.sizes.now) a.least a.bytes.now a.at ≡ got c.in_ok-variable.variable.value c.in_ok-variable.variable.next
variable c = sym c.in_ok-variable.ensures

below : (c : In_ok-variable) → c.in_ok-variable.variable.value < length c.args.sizes.now
below c = ((rising-said _ _ _ _).gives _ _ _ (variable c)).known.1

-- The before value that was read.
before : (c : In_ok-before) → let a = c.args in
    item (inside 0 (size a.sizes.now c.in_ok-variable.variable.value)) Range a.bytes.now c.in_ok-variable.variable.next ≡ got c.in_ok-before.before.value c.in_ok-before.before.next
before c = sym c.in_ok-before.ensures

pub offset_bounds-sizes-variable : goal.offset_bounds-sizes-variable
offset_bounds-sizes-variable c = omega (arith, below c)

pub bounds-sizes-variable : goal.bounds-sizes-variable
bounds-sizes-variable c = below (goal.at.bounds-sizes-variable c).In_ok-variable

pub returns : goal.returns
unfolding entries_of
returns c = simp (variable (goal.at.returns c).In_ok-variable, before (goal.at.returns c).In_ok-before, sym c.in_ok-after.ensures)

pub returns-in_err-after : goal.returns-in_err-after
unfolding entries_of
returns-in_err-after c =
    let p = err_from_is_err_and c.from_residual-in_err-after.result c.from_residual-in_err-after.ensures.1 in
    rw (p.1, p.2) (simp (variable (goal.at.returns-in_err-after c).In_ok-variable, before (goal.at.returns-in_err-after c).In_ok-before, sym c.in_err-after.ensures))

pub returns-in_err-before : goal.returns-in_err-before
unfolding entries_of
returns-in_err-before c =
    let p = err_from_is_err_and c.from_residual-in_err-before.result c.from_residual-in_err-before.ensures.1 in
    rw (p.1, p.2) (simp (variable (goal.at.returns-in_err-before c).In_ok-variable, sym c.in_err-before.ensures))

pub returns-in_err-variable : goal.returns-in_err-variable
unfolding entries_of
returns-in_err-variable c =
    let p = err_from_is_err_and c.from_residual.result c.from_residual.ensures.1 in
    rw (p.1, p.2) (simp (sym c.in_err-variable.ensures))

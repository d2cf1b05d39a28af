-- `item_at` answers by the number that was read and by the two tests of its range.
use Rattle.std.proofs.lemmas.Result.{err_from_is_err_and}
use mathlib.Core.Path.{◌≡◌, sym, ap, ◌∙◌}
use borrow.Author.Tests.{lt-ltb, le-ltb, le-leb, lt-leb}
use Rattle.meaning.specs.Number.{number, got}
use Rattle.meaning.specs.File.{item}
use Rattle.number.specs.Answers.{number_of}
use Rattle.number.proofs.item_at.Goals as goal
use Rattle.number.proofs.item_at.Goals.{In_ok-number}

-- The number that was read.
read : (c : In_ok-number) → number c.args.bytes.now c.args.at ≡ got c.in_ok-number.number.value c.in_ok-number.number.next
read c = sym c.number_at.ensures ∙ ap number_of c.in_ok-number.was

pub returns-then-number-low : goal.returns-then-number-low
unfolding item
returns-then-number-low c = simp (read (goal.at.returns-then-number-low c).In_ok-number, lt-leb _ _ c.if-number-low.true)

pub returns-then-high-number : goal.returns-then-high-number
unfolding item
returns-then-high-number c = simp (read (goal.at.returns-then-high-number c).In_ok-number, le-leb _ _ c.if-number-low.false, le-ltb _ _ c.if-high-number.true)

pub returns : goal.returns
unfolding item
returns c = simp (read (goal.at.returns c).In_ok-number, le-leb _ _ c.if-number-low.false, lt-ltb _ _ c.if-high-number.false)

pub returns-in_err-number : goal.returns-in_err-number
unfolding item
returns-in_err-number c = let p = err_from_is_err_and c.from_residual.result c.from_residual.ensures.1 in rw (p.1, p.2) (simp (sym c.in_err-number.ensures))

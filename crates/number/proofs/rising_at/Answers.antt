-- `rising_at` answers by the number in its range that was read and by the test of its order.
use Rattle.std.proofs.lemmas.Result.{err_from_is_err_and}
use mathlib.Core.Path.{◌≡◌, sym, ap, ◌∙◌}
use borrow.Author.Tests.{le-leb, lt-leb}
use Rattle.meaning.specs.Number.{Range, got}
use Rattle.meaning.specs.File.{inside, item, rising}
use Rattle.number.specs.Answers.{number_of}
use Rattle.number.proofs.rising_at.Goals as goal
use Rattle.number.proofs.rising_at.Goals.{In_ok-number}

-- The number that was read.
read : (c : In_ok-number) → let a = c.args in
    item (inside a.low a.high) Range a.bytes.now a.at ≡ got c.in_ok-number.number.value c.in_ok-number.number.next
read c = sym c.item_at.ensures ∙ ap number_of c.in_ok-number.was

pub returns-then-number-least : goal.returns-then-number-least
unfolding rising
returns-then-number-least c = simp (read (goal.at.returns-then-number-least c).In_ok-number, lt-leb _ _ c.if-number-least.true)

pub returns : goal.returns
unfolding rising
returns c = simp (read (goal.at.returns c).In_ok-number, le-leb _ _ c.if-number-least.false)

pub returns-in_err-number : goal.returns-in_err-number
unfolding rising
returns-in_err-number c = let p = err_from_is_err_and c.from_residual.result c.from_residual.ensures.1 in rw (p.1, p.2) (simp (sym c.in_err-number.ensures))

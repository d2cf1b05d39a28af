-- `gap_at` answers by the number that was read and by where the sum lies: past the range, below it, or inside.
use Rattle.std.proofs.lemmas.Result.{err_from_is_err_and}
use Prim.Native.Nat.{◌+◌, ◌<◌, ◌≤◌}
use mathlib.Core.Path.{◌≡◌, sym, ap, ◌∙◌}
use mathlib.Core.Bool.{and-false}
use native.Mathlib.Omega.{arith}
use borrow.Author.Tests.{lt-ltb, le-ltb, le-leb, lt-leb}
use Rattle.meaning.specs.Number.{number, got, fault, Range}
use Rattle.meaning.specs.File.{gapped, feature_of}
use Rattle.number.specs.Answers.{number_of}
use Rattle.number.proofs.gap_at.Goals as goal
use Rattle.number.proofs.gap_at.Goals.{In_ok-gap}

-- The number that was read.
read : (c : In_ok-gap) → number c.args.bytes.now c.args.at ≡ got c.in_ok-gap.gap.value c.in_ok-gap.gap.next
read c = sym c.number_at.ensures ∙ ap number_of c.in_ok-gap.was

-- A sum that passes the range.
past : (c : In_ok-gap) → let a = c.args in a.high ≤ a.least + c.in_ok-gap.gap.value → fault Range a.at ≡ feature_of gapped a.low a.high a.least a.bytes.now a.at
unfolding feature_of
past c h = simp (read c, le-ltb _ _ h, and-false)

pub returns-then-high-least : goal.returns-then-high-least
returns-then-high-least c = past (goal.at.returns-then-high-least c).In_ok-gap (omega (arith, c.if-high-least.true))

pub returns-then-high-least-2 : goal.returns-then-high-least-2
returns-then-high-least-2 c = past (goal.at.returns-then-high-least-2 c).In_ok-gap (omega (arith, c.if-high-least-2.true, c.if-high-least.false))

pub returns-then-feature-low : goal.returns-then-feature-low
unfolding feature_of
returns-then-feature-low c = simp (read (goal.at.returns-then-feature-low c).In_ok-gap, lt-leb _ _ c.if-feature-low.true)

pub returns : goal.returns
unfolding feature_of
returns c =
    let a = c.args in
    let under : a.least + c.in_ok-gap.gap.value < a.high = omega (arith, c.if-high-least-2.false, c.if-high-least.false) in
    simp (read (goal.at.returns c).In_ok-gap, le-leb _ _ c.if-feature-low.false, lt-ltb _ _ under)

pub returns-in_err-gap : goal.returns-in_err-gap
unfolding feature_of
returns-in_err-gap c = let p = err_from_is_err_and c.from_residual.result c.from_residual.ensures.1 in rw (p.1, p.2) (simp (sym c.in_err-gap.ensures))

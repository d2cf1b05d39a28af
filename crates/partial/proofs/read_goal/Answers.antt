-- `read_goal` meets its contract: after each turn the values that are still to be read go behind those in the words, and leave what all values would.
-- The sizes, and the marks that are still to be used, stay as they were.
use Rattle.std.proofs.lemmas.Result.{err_from_is_err_and}
use mathlib.Core.Path.{sym, ◌∙◌}
use native.Mathlib.Omega.{arith}
use native.Mathlib.Nat.{add-zero}
use Rattle.reader.specs.Answer.{placed-next, placed-fault}
use Rattle.reader.specs.Lists.{list-more, list-fault}
use Rattle.partial.specs.Goal.{kept-all, kept_set, first-value, values-none, values-written}
use Rattle.partial.proofs.read_goal.Goals as goal

pub loop-i-init : goal.loop-i-init
loop-i-init c = (kept-all _ _ _ c.goal_at-goal.ensures c.requires.1, simp add-zero)

pub returns-in_err-number : goal.returns-in_err-number
returns-in_err-number c = let is = c.goal_at-goal.ensures in let room = c.requires.1 in let inv = c.loop-i.invariant in let a = c.args in let p = err_from_is_err_and c.from_residual.result c.from_residual.ensures.1 in rw (p.1, p.2) (
    values-written a.header.now _ _ is room a.bytes.now a.at _ _ (placed-fault _ _ _ _ (inv.1
    ∙ list-fault (first-value _ _ _ is room _ _ (omega arith) inv.0) _ _ _ _ _ (sym c.in_err-number.ensures))))

pub loop-i-preserved : goal.loop-i-preserved
loop-i-preserved c = let is = c.goal_at-goal.ensures in let room = c.requires.1 in let inv = c.loop-i.invariant in (
  kept_set _ _ _ is room _ _ _ inv.0,
  inv.1 ∙ list-more (first-value _ _ _ is room _ _ (omega arith) inv.0) _ _ _ _ _ _ _ (sym c.in_ok-number.ensures),
)

pub returns : goal.returns
returns c = let is = c.goal_at-goal.ensures in let room = c.requires.1 in let a = c.args in
    values-written a.header.now _ _ is room a.bytes.now a.at _ _ (placed-next _ _ _ _ (c.loop-i.invariant.1 ∙ values-none a.header.now _ _ is room _ _ _ _ _ (omega arith)))

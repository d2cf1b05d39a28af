-- `items_at` meets its contract: after each turn the numbers that are still to be read go behind those in the words, and leave what all numbers would.
-- The bounds that are still to be used stay as they were.
use Rattle.std.proofs.lemmas.Result.{err_from_is_err_and}
use mathlib.Core.Path.{sym, ◌∙◌}
use native.Mathlib.Omega.{arith}
use native.Mathlib.Nat.{add-zero}
use lib.ListN.{length-set}
use Rattle.number.specs.Answers.{reason_of}
use Rattle.reader.specs.Answer.{placed-next, placed-fault}
use Rattle.reader.specs.Lists.{unread-all, unread-set, list-more, list-fault, first-item, items-none, items-written}
use Rattle.reader.proofs.items_at.Goals as goal

pub loop-i-init : goal.loop-i-init
loop-i-init c = (omega arith, unread-all _ _ _ _ c.requires.0 c.requires.1 c.requires.2 c.args.low (reason_of c.args.reason), simp add-zero)

pub returns-in_err-number : goal.returns-in_err-number
returns-in_err-number c = let s = c.requires in let t = c.loop-i in let p = err_from_is_err_and c.from_residual.result c.from_residual.ensures.1 in rw (p.1, p.2) (
    items-written _ _ _ _ s.0 s.1 s.2 _ _ _ _ _ _ (placed-fault _ _ _ _ (t.invariant.2
    ∙ list-fault (first-item _ _ _ _ s.0 s.1 s.2 _ _ _ _ (omega arith) t.invariant.1) _ _ _ _ _ (sym c.in_err-number.ensures))))

pub loop-i-preserved : goal.loop-i-preserved
loop-i-preserved c = let t = c.loop-i in (
  simp length-set t.invariant.0,
  unread-set _ _ _ _ c.requires.0 c.requires.1 c.requires.2 c.args.low (reason_of c.args.reason) _ _ _ t.invariant.1,
  t.invariant.2 ∙ list-more (first-item _ _ _ _ c.requires.0 c.requires.1 c.requires.2 _ _ _ _ (omega arith) t.invariant.1) _ _ _ _ _ _ _ (sym c.in_ok-number.ensures),
)

pub returns : goal.returns
returns c = let s = c.requires in
    items-written _ _ _ _ s.0 s.1 s.2 _ _ _ _ _ _ (placed-next _ _ _ _ (c.loop-i.invariant.2 ∙ items-none _ _ _ _ s.0 s.1 s.2 _ _ _ _ _ _ _ (omega arith)))

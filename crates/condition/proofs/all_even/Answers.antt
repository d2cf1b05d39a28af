-- `all_even`: whether all rows are met evenly is whether those that the walk has left are.
use mathlib.Core.Path.{refl, sym, ap, ◌∙◌}
use Rattle.condition.specs.Walk.{base-state, base-applies, all_even, even-none, even-stop, even-next}
use Rattle.condition.proofs.all_even.Goals as goal

pub first_row-walk-requires : goal.first_row-walk-requires
first_row-walk-requires c = let p = c.requires in let h = p.0.1 in (h.given, base-state h, base-applies h, p.3)

pub loop-walk-init : goal.loop-walk-init
loop-walk-init c = (_, c.first_row-walk.ensures _, refl)

pub returns-then-odd_shared : goal.returns-then-odd_shared
returns-then-odd_shared c = let (left, walked, e) = c.loop-walk.invariant in let p = c.requires in
    sym (e ∙ even-stop _ _ _ _ _ p.1 p.2 (rw c.in-Some.is at walked.rest) (sym c.odd_shared.ensures ∙ c.if-odd_shared.true))

pub loop-walk-preserved : goal.loop-walk-preserved
loop-walk-preserved c = let (left, walked, e) = c.loop-walk.invariant in let p = c.requires in
    (_, c.next_row-walk.ensures, e ∙ even-next _ _ _ _ _ p.1 p.2 (rw c.in-Some.is at walked.rest) (sym c.odd_shared.ensures ∙ c.if-odd_shared.false))

pub returns : goal.returns
returns c = let (left, walked, e) = c.loop-walk.invariant in sym (e ∙ ap (all_even _ _) (rw c.in_default.is at walked.rest) ∙ even-none _ _)

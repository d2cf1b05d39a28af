-- `unclosed_from`: none of the listed pairs that the walk has passed is unclosed.
use mathlib.Core.Path.{sym, ◌∙◌}
use native.Mathlib.Omega.{arith}
use Rattle.pairs.specs.Ready.{ready-listed}
use Rattle.pairs.specs.Walk.{ListedAt, reached-next, left-fewer}
use Rattle.pairs.proofs.Tabled.unclosed_from.Goals as goal
use Rattle.pairs.proofs.Tabled.unclosed_from.Goals.{In-Some}

-- The pair that the walk stands at.
here : (c : In-Some) → ListedAt c.args.self.sizes.now c.args.self.pairs.now c.in-Some.pair
here c = rw c.in-Some.is at c.loop-next.invariant.0

pub loop-next-init : goal.loop-next-init
loop-next-init c = (c.requires.1, λ start reached. reached)

pub is_unclosed-requires : goal.is_unclosed-requires
is_unclosed-requires c = (here (goal.at.is_unclosed-requires c).In-Some).holds

pub returns-then-is_unclosed : goal.returns-then-is_unclosed
returns-then-is_unclosed c = (rw c.in-Some.is at c.loop-next.invariant.1, sym c.is_unclosed.ensures ∙ c.if-is_unclosed.true)

pub next_pair-next-requires : goal.next_pair-next-requires
next_pair-next-requires c = let at = here (goal.at.next_pair-next-requires c).In-Some in
    (ready-listed c.args.self.ready, c.requires.0, omega (arith, at.below, c.requires.0), at.holds)

pub loop-next-smaller : goal.loop-next-smaller
loop-next-smaller c = rw c.in-Some.is (left-fewer _ _ _ c.in-Some.pair _ c.requires.0 c.next_pair-next.ensures)

pub loop-next-preserved : goal.loop-next-preserved
loop-next-preserved c = (
  c.next_pair-next.ensures.listed,
  λ start reached. reached-next _ _ _ start _ _ (rw c.in-Some.is at (c.loop-next.invariant.1 start reached)) (sym c.is_unclosed.ensures ∙ c.if-is_unclosed.false) c.next_pair-next.ensures,
)

pub returns : goal.returns
returns c = (λ start reached. rw c.in_default.is at (c.loop-next.invariant.1 start reached), tt)

-- `atoms_from` meets its contract: from variable k on the atoms are counted, and from j on too once k is there.
use Rattle.std.proofs.Common.{◌+◌, ◌-◌, ◌≡◌, ap, arith, take_all, length}
use Rattle.meaning.specs.Feature.{sum_of}
use Rattle.numbering.specs.Sizes.{sum-small}
use Rattle.numbering.specs.Blocks.{From, from-turn}
use Rattle.numbering.proofs.atoms_from.Goals as goal
use Rattle.numbering.proofs.atoms_from.Goals.{After-size-sum}

-- What a turn counts.
turn : (c : After-size-sum) → From c.args.sizes.now (c.loop-k.k - 1) (c.loop-k.sum + c.size-sum.result)
turn c = from-turn _ _ _ _ (omega arith) c.size-sum.ensures c.loop-k.invariant.1

pub loop-k-init : goal.loop-k-init
loop-k-init c =
    let sizes = c.args.sizes.now in
    (omega arith, omega (arith, ap sum_of (take_all (length sizes) sizes (omega arith))), λ l. absurd (omega arith))

pub overflow_add-sum : goal.overflow_add-sum
overflow_add-sum c = omega (arith, turn c, sum-small _ c.requires.0)

pub loop-k-preserved-then-k-j : goal.loop-k-preserved-then-k-j
loop-k-preserved-then-k-j c = let counted = turn (goal.at.loop-k-preserved-then-k-j c).After-size-sum in (omega arith, counted, λ l. rw (← c.if-k-j.true) counted)

pub loop-k-preserved : goal.loop-k-preserved
loop-k-preserved c = (omega arith, turn (goal.at.loop-k-preserved c).After-size-sum, λ l. c.loop-k.invariant.2 (omega arith))

pub returns : goal.returns
returns c =
    let (_, rest, later) = c.loop-k.invariant in
    let e : c.loop-k.k ≡ c.args.i = omega arith in
    (rw (← e) rest, later (omega arith))

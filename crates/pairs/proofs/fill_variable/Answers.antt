-- `fill_variable`: after y turns the free atoms of the first y values are added; a value that is not possible adds nothing.
use Prim.Native.Nat.{◌+◌}
use mathlib.Core.Path.{◌≡◌, sym, ◌∙◌}
use native.Mathlib.Omega.{arith}
use Rattle.meaning.specs.Task.{size}
use Rattle.numbering.specs.Sizes.{limits-small}
use Rattle.pairs.specs.Ready.{ValueAt, value-at}
use Rattle.pairs.specs.Fill.{free-start, free-skip, free-put}
use Rattle.pairs.proofs.fill_variable.Goals as goal
use Rattle.pairs.proofs.fill_variable.Goals.{then-is_possible, else-is_possible, In-loop-y}

-- Where the atom of the value y stands.
atom : (c : In-loop-y) → let a = c.args in
    ValueAt a.sizes.now a.possible.now a.u c.loop-y.y (c.single-start.result + c.loop-y.y)
atom c = let (h, free, l, r, k) = c.requires in
    value-at _ _ _ _ _ _ h.limits r c.single-start.ensures c.size-y-end.ensures c.loop-y-test.true

pub single-start-requires : goal.single-start-requires
single-start-requires c = let (h, free, l, r, k) = c.requires in (limits-small _ h.limits, l, (h.limits.each _ l).0)

pub loop-y-init : goal.loop-y-init
loop-y-init c = free-start _ _ _ _ _

pub is_possible-requires : goal.is_possible-requires
is_possible-requires c = let (h, free, l, r, k) = c.requires in (h, free, l, omega (arith, c.size-y-end.ensures))

pub overflow_add-start : goal.overflow_add-start
overflow_add-start c = omega (arith, (atom (goal.at.overflow_add-start c).In-loop-y).small)

pub toggle-requires : goal.toggle-requires
toggle-requires c = omega (arith, (atom (goal.at.toggle-requires c).In-loop-y).room)

pub loop-y-preserved : goal.loop-y-preserved
loop-y-preserved c = let (h, free, l, r, k) = c.requires in elim c.if-is_possible.branch [
  | then-is_possible w ↦ free-put _ _ _ _ _ _ _ c.loop-y.invariant _ _ r k (omega (arith, c.size-y-end.ensures))
      (sym c.is_possible.ensures ∙ w.if-is_possible.true) (atom (goal.at.loop-y-preserved c).In-loop-y).number (w.possible-is ∙ w.toggle.ensures)
  | else-is_possible w ↦ free-skip _ _ _ _ _ _ _ c.loop-y.invariant _ (sym c.is_possible.ensures ∙ w.if-is_possible.false) w.possible-is
]

pub returns : goal.returns
returns c = let a = c.args in
    let e : size a.sizes.now a.u ≡ c.loop-y.y = omega (arith, c.size-y-end.ensures) in rw e c.loop-y.invariant

-- `slots::clear_pending`: between two turns the area is a `Clearing`.
use Prim.Native.Nat.{◌+◌, ◌*◌, ◌≤◌}
use mathlib.Core.Path.{ap, ◌∙◌}
use native.Mathlib.Omega.{arith}
use lib.ListN.{length}
use Rattle.slots.specs.Area.{slot-in, part-is, length-slot}
use Rattle.slots.specs.Change.{cleared}
use Rattle.slots.specs.Inserting.{clearing-first, clearing-next, clearing-done}
use Rattle.slots.proofs.clear_pending.Goals as goal
use Rattle.slots.proofs.clear_pending.Goals.{In-loop-i}

-- The slot of a turn is in the area.
place : (c : In-loop-i) → let w = length c.args.row.now in c.loop-i.i * w + w ≤ length c.loop-i.area
place c = omega (arith, slot-in (length c.args.row.now) c.loop-i.i c.args.p c.loop-i-test.true, c.loop-i.invariant.long, c.requires)

pub next_member-i-requires : goal.next_member-i-requires
next_member-i-requires c = omega (arith, c.requires)

pub loop-i-init : goal.loop-i-init
loop-i-init c = clearing-first _ _ _ _ _ c.next_member-i.ensures

pub overflow_mul-base : goal.overflow_mul-base
overflow_mul-base c = omega (arith, place c)

pub overflow_add-base : goal.overflow_add-base
overflow_add-base c = omega (arith, place c)

pub offset_bounds-area-base : goal.offset_bounds-area-base
offset_bounds-area-base c = omega (arith, place c)

pub clear_index-requires : goal.clear_index-requires
clear_index-requires c = let w = length c.args.row.now in
    (ap length (part-is w c.loop-i.i c.loop-i.area) ∙ length-slot w c.loop-i.i c.loop-i.area (place (goal.at.clear_index-requires c).In-loop-i), c.requires.1, c.requires.2)

pub next_member-i-requires-in-loop-i : goal.next_member-i-requires-in-loop-i
next_member-i-requires-in-loop-i c = omega (arith, c.requires, c.loop-i-test.true)

pub loop-i-smaller : goal.loop-i-smaller
loop-i-smaller c = omega (arith, c.next_member-i-in-loop-i.ensures.above)

pub loop-i-preserved : goal.loop-i-preserved
loop-i-preserved c = let l = c.loop-i in clearing-next c.args.p _ c.args.row.now c.args.area.now l.i c.next_member-i-in-loop-i.result l.area c.clear_index.new.slot (place (goal.at.loop-i-preserved c).In-loop-i) c.loop-i-test.true c.requires.1 c.requires.3 c.next_member-i-in-loop-i.ensures
    (c.clear_index.ensures ∙ ap (cleared c.args.p c.args.row.now) (part-is (length c.args.row.now) l.i l.area)) l.invariant

pub shape_of-area : goal.shape_of-area
shape_of-area c = c.loop-i.invariant.long

pub returns : goal.returns
returns c = clearing-done _ _ _ _ _ _ c.loop-i-test.false c.loop-i.invariant

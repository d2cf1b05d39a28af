-- `slots::insert`: what is left is put at its least member (`inserted`), or nothing is left (`inserted-none`).
use native.Mathlib.Omega.{arith}
use mathlib.Core.Path.{◌≡◌, sym, ◌∙◌}
use Prim.Native.Nat.{◌*◌, ◌<◌}
use lib.ListN.{length}
use Rattle.meaning.specs.Workspace.{words_for}
use Rattle.slots.specs.Area.{slot-room}
use Rattle.slots.specs.Waiting.{waiting-led}
use Rattle.slots.specs.Inserting.{next-led, inserted, inserted-waiting, inserted-none}
use Rattle.slots.proofs.insert.Goals as goal
use Rattle.slots.proofs.insert.Goals.{After-reduce_upward}

-- What is left has as many words as the row.
left-long : (c : After-reduce_upward) → length c.reduce_upward.new.row ≡ words_for c.args.n
left-long c = omega (arith, c.reduce_upward.auto, c.requires.1)

pub reduce_upward-requires : goal.reduce_upward-requires
reduce_upward-requires c = let (h, e, past) = c.requires in (waiting-led h, h.full-are, h.full-long, e)

pub put-requires : goal.put-requires
put-requires c = let h = c.requires.0 in let e = left-long (goal.at.put-requires c).After-reduce_upward in
    let l : c.next_member-p.result < 64 * length c.reduce_upward.new.row = omega (arith, c.if-p-n.true, e) in (
      slot-room c.args.n _ c.next_member-p.result c.args.area.now e h.long c.if-p-n.true,
      l,
      next-led _ _ c.next_member-p.ensures l,
      h.full-long ∙ sym e,
      h.pending-long ∙ sym e,
      omega (arith, e, h.few),
    )

pub returns-then-p-n : goal.returns-then-p-n
returns-then-p-n c = let (h, _, past) = c.requires in let l = c.if-p-n.true in
    let long : length c.put.new.area ≡ length c.args.area.now = omega (arith, c.put.auto) in record { waiting = inserted-waiting _ _ _ _ _ _ h past (left-long (goal.at.returns-then-p-n c).After-reduce_upward) c.reduce_upward.ensures _ c.next_member-p.ensures l c.put.new.full c.put.new.pending c.put.new.area long c.put.ensures.slots c.put.ensures.full c.put.ensures.pending; row = inserted _ _ _ _ _ _ h past (left-long (goal.at.returns-then-p-n c).After-reduce_upward) c.reduce_upward.ensures _ c.next_member-p.ensures l c.put.new.full c.put.new.pending c.put.new.area long c.put.ensures.slots c.put.ensures.full c.put.ensures.pending }

pub returns-else-p-n : goal.returns-else-p-n
returns-else-p-n c = let (h, _, past) = c.requires in
    record { waiting = h; row = inserted-none _ _ _ _ _ _ h past (left-long (goal.at.returns-else-p-n c).After-reduce_upward) c.reduce_upward.ensures _ c.next_member-p.ensures c.if-p-n.false }

-- `slots::settle_slots`: between two turns the slots below i are settled (`Settling`).
use Rattle.std.proofs.Common.{arith}
use Rattle.slots.specs.Settling.{settling-first, settling-led, settling-indexes, settling-next, settling-done}
use Rattle.slots.proofs.settle_slots.Goals as goal

pub loop-i-init : goal.loop-i-init
loop-i-init c = settling-first _ _ _ _ c.requires.0 _ c.requires.1 (λ i h. (c.type_inv.area i).fits)

pub settle_slot-requires : goal.settle_slot-requires
settle_slot-requires c = let h = c.requires.0 in let t = c.loop-i.invariant in (
  settling-led _ _ _ _ h _ _ _ t,
  settling-indexes _ _ _ _ h _ _ _ t,
  h.full-long,
  h.pending-long,
  t.room,
  c.loop-i-test.true,
)

pub loop-i-preserved : goal.loop-i-preserved
loop-i-preserved c = let l = c.loop-i in settling-next _ _ _ _ c.requires.0 l.i l.area l.row l.invariant c.settle_slot.new.area c.settle_slot.new.row c.loop-i-test.true (omega arith) (omega arith)
    (λ i h. (c.type_inv.area i).fits) c.settle_slot.ensures

pub returns : goal.returns
returns c = let l = c.loop-i in settling-done _ _ _ _ c.requires.0 l.i l.area _ l.invariant c.loop-i-test.false

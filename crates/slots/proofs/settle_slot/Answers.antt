-- `slots::settle_slot`: slot i stays, or the sum is written in its place; the slot itself has the indices while its copy changes.
use mathlib.Core.Path.{◌≡◌, ap, sym, ◌∙◌}
use native.Mathlib.Omega.{arith}
use lib.ListN.{length}
use Rattle.meaning.specs.Workspace.{has, words_for}
use Rattle.slots.specs.Area.{slot_at, slot-room}
use Rattle.slots.specs.Settling.{pending-stays, empty-stays, apart-stays, written_back}
use Rattle.slots.proofs.settle_slot.Goals as goal
use Rattle.slots.proofs.settle_slot.Goals.{After-add_slots, After-slot_of-slot}

-- The slot that is lent.
slot : (c : After-slot_of-slot) → let s = c.args in c.slot_of-slot.result.now ≡ slot_at (words_for s.n) s.area.now s.i
slot c = c.slot_of-slot.ensures.0 ∙ ap (λ w. slot_at w c.args.area.now c.args.i) c.requires.4

-- The sum has as many words as a slot.
sum-long : (c : After-add_slots) → length c.add_slots.new.row ≡ words_for c.args.n
sum-long c = omega (arith, c.add_slots.auto, c.copy.auto, c.requires.4)

pub returns-then-has : goal.returns-then-has
returns-then-has c = pending-stays _ _ _ _ c.requires.5 (sym c.has.ensures ∙ c.if-has.true)

pub returns-then-not-has : goal.returns-then-not-has
returns-then-not-has c = empty-stays _ _ _ _ c.requires.5 _ c.requires.0 c.requires.1 (sym c.has-2.ensures ∙ c.if-not-has.true)

pub slot_of-slot-requires : goal.slot_of-slot-requires
slot_of-slot-requires c = slot-room c.args.n _ _ c.args.area.now c.requires.4 c.requires.0.long c.requires.5

pub returns-then-n-next_shared : goal.returns-then-n-next_shared
returns-then-n-next_shared c = apart-stays _ _ _ _ c.requires.5 _ (slot (goal.at.returns-then-n-next_shared c).After-slot_of-slot) _ _ c.if-n-next_shared.true c.requires.0 c.next_shared.ensures

pub add_slots-requires : goal.add_slots-requires
add_slots-requires c = (
  c.requires.0,
  c.slot_of-slot.ensures.1 ∙ c.requires.4,
  c.requires.3,
  omega (arith, c.copy.auto, c.requires.4),
  omega (arith, c.requires.5),
  λ f l. ap (λ w. has w f) (slot (goal.at.add_slots-requires c).After-slot_of-slot) ∙ (c.requires.0.each c.args.i c.requires.5).low f l,
)

pub write_slot-requires : goal.write_slot-requires
write_slot-requires c = slot-room c.args.n _ c.args.i c.args.area.now (sum-long (goal.at.write_slot-requires c).After-add_slots) c.requires.0.long c.requires.5

pub returns : goal.returns
returns c = written_back _ _ _ _ c.requires.5 _ (slot (goal.at.returns c).After-slot_of-slot) _ c.add_slots.new.row _ c.requires.0.long (sym c.has.ensures ∙ c.if-has.false) c.copy.ensures
    c.add_slots.ensures (sum-long (goal.at.returns c).After-add_slots) c.write_slot.ensures

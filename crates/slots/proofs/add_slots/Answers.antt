-- `slots::add_slots`: between two turns the row is an `Adding`.
use mathlib.Core.Path.{refl, sym, ◌∙◌}
use native.Mathlib.Omega.{arith}
use Rattle.meaning.specs.Workspace.{words_for}
use Rattle.slots.specs.Area.{slot_has, slot-room, length-slot}
use Rattle.slots.specs.Reducing.{adding-first, adding-next, adding-done}
use Rattle.slots.proofs.add_slots.Goals as goal

pub next_shared-p-requires : goal.next_shared-p-requires
next_shared-p-requires c = (c.requires.1 ∙ sym c.requires.2, omega (arith, c.requires), omega (arith, c.requires.0.few, c.requires.1))

pub loop-p-init : goal.loop-p-init
loop-p-init c = adding-first _ _ _ _ _ _ _ _ (c.requires.3 ∙ sym c.requires.1) refl (λ f l. rw (c.requires.5 f l)) c.next_shared-p.ensures

pub add_slot-requires : goal.add_slot-requires
add_slot-requires c = (c.requires.0, c.loop-p-test.true, c.loop-p.invariant.long ∙ c.requires.1)

pub overflow_add-p : goal.overflow_add-p
overflow_add-p c = omega (arith, c.loop-p-test.true)

pub next_shared-p-requires-in-loop-p : goal.next_shared-p-requires-in-loop-p
next_shared-p-requires-in-loop-p c = (c.requires.1 ∙ sym c.requires.2, omega (arith, c.requires.1, c.loop-p-test.true), omega (arith, c.requires.0.few, c.requires.1))

pub loop-p-smaller : goal.loop-p-smaller
loop-p-smaller c = omega (arith, c.next_shared-p-in-loop-p.ensures.above)

pub loop-p-preserved : goal.loop-p-preserved
loop-p-preserved c = let below = c.loop-p-test.true in let n = c.args.n in let area = c.args.area.now in
    adding-next _ _ _ _ _ c.loop-p.row c.add_slot.new.row _ c.loop-p.p c.next_shared-p-in-loop-p.result below (omega (arith, c.requires.1)) c.next_shared-p-in-loop-p.ensures
    (length-slot (words_for n) c.loop-p.p area (slot-room n _ c.loop-p.p area refl c.requires.0.long below) ∙ sym c.requires.1) (λ f. sym (slot_has n c.loop-p.p area f below)) c.add_slot.ensures c.loop-p.invariant

pub shape_of-row : goal.shape_of-row
shape_of-row c = c.loop-p.invariant.long ∙ c.requires.1 ∙ sym c.requires.3

pub returns : goal.returns
returns c = adding-done _ _ _ _ _ _ _ c.loop-p-test.false c.loop-p.invariant

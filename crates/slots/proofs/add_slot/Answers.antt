-- `slots::add_slot`: the slot is in the area and has p as least member, or it is empty and adds nothing.
use mathlib.Core.Path.{◌≡◌, ap, sym, ◌∙◌, subst}
use native.Mathlib.Omega.{arith}
use Rattle.meaning.specs.Workspace.{has, words_for}
use Rattle.theory.specs.Words.{Words}
use Rattle.words.specs.Change.{summed}
use Rattle.slots.specs.Change.{Led, added_none, led-none}
use Rattle.slots.specs.Area.{slot_at, slot-room, words-slot}
use Rattle.slots.proofs.add_slot.Goals as goal
use Rattle.slots.proofs.add_slot.Goals.{After-slot_of-slot}

slot : (c : After-slot_of-slot) → let s = c.args in c.slot_of-slot.result.now ≡ slot_at (words_for s.n) s.area.now s.p
slot c = c.slot_of-slot.ensures.0 ∙ ap (λ w. slot_at w c.args.area.now c.args.p) c.requires.2

led : (c : After-slot_of-slot) → Led c.args.p (has c.slot_of-slot.result.now)
led c = subst (λ l. Led c.args.p (has l)) (sym (slot c)) (c.requires.0.each c.args.p c.requires.1)

pub slot_of-slot-requires : goal.slot_of-slot-requires
slot_of-slot-requires c = slot-room c.args.n _ _ c.args.area.now c.requires.2 c.requires.0.long c.requires.1

pub add_from-requires : goal.add_from-requires
add_from-requires c = (sym c.slot_of-slot.ensures.1, omega (arith, c.slot_of-slot.ensures.1, c.requires.1, c.requires.2), led (goal.at.add_from-requires c).After-slot_of-slot)

pub returns-then-has : goal.returns-then-has
returns-then-has c = c.add_from.ensures ∙ ap (summed c.args.row.now) (slot (goal.at.returns-then-has c).After-slot_of-slot)

pub returns-else-has : goal.returns-else-has
returns-else-has c = let row = c.args.row.now in
    let words = subst Words (sym (slot (goal.at.returns-else-has c).After-slot_of-slot)) (words-slot (words_for c.args.n) c.args.p c.args.area.now (λ i h. (c.type_inv.area i).fits)) in
    added_none row c.slot_of-slot.result.now words (sym c.slot_of-slot.ensures.1) (led-none _ _ (led (goal.at.returns-else-has c).After-slot_of-slot) (sym c.has.ensures ∙ c.if-has.false)) ∙ ap (summed row) (slot (goal.at.returns-else-has c).After-slot_of-slot)

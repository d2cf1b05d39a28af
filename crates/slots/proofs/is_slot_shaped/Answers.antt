-- `slots::is_slot_shaped`: the slot is the part of the area.
use Rattle.std.proofs.Common.{◌≡◌, ap, ◌∙◌}
use Rattle.meaning.specs.Workspace.{words_for}
use Rattle.slots.specs.Area.{slot_at, slot-room}
use Rattle.slots.proofs.is_slot_shaped.Goals as goal

pub slot_of-requires : goal.slot_of-requires
slot_of-requires c = slot-room c.args.n _ _ c.args.area.now c.requires.1 c.requires.0 c.requires.3

pub is_shaped-requires : goal.is_shaped-requires
is_shaped-requires c = (c.slot_of.ensures.1 ∙ c.requires.1, c.requires.1, c.requires.2, c.requires.3)

pub returns : goal.returns
returns c = let e : c.slot_of.result.now ≡ slot_at (words_for c.args.n) c.args.area.now c.args.i = c.slot_of.ensures.0 ∙ ap (λ w. slot_at w c.args.area.now c.args.i) c.requires.1 in
    rw (← e) c.is_shaped.ensures

-- `slots::is_shaped`: each way out is one of the laws on the shape of a slot.
use Rattle.slots.specs.Shape.{shaped-empty, shaped-least, shaped-past, shaped-apart}
use Rattle.slots.proofs.is_shaped.Goals as goal

pub returns-then-least-bits : goal.returns-then-least-bits
returns-then-least-bits c = shaped-empty _ _ _ _ _ c.next_member-least.ensures c.if-least-bits.true

pub returns-then-least-i : goal.returns-then-least-i
returns-then-least-i c = shaped-least _ _ _ _ _ c.next_member-least.ensures c.if-least-bits.false c.if-least-i.true

pub returns-then-next_member-bits : goal.returns-then-next_member-bits
returns-then-next_member-bits c = shaped-past _ _ _ _ _ c.next_member.ensures c.if-next_member-bits.true

pub returns : goal.returns
returns c = shaped-apart _ _ _ _ _ _ c.next_member-least.ensures c.if-least-bits.false
    c.if-least-i.false c.next_member.ensures c.if-next_member-bits.false c.apart.ensures

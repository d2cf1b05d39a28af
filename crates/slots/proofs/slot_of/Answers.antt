-- `slots::slot_of`: the part from the place of slot i on, w words long, is slot i.
use Rattle.slots.specs.Area.{part-is, length_part}
use Rattle.slots.proofs.slot_of.Goals as goal

pub returns : goal.returns
returns c = let s = c.args in (part-is s.w s.i s.area.now, length_part s.w s.i s.area.now c.requires)

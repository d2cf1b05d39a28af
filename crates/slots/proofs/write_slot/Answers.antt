-- `slots::write_slot`: the words of the slot are lent and copied.
use mathlib.Core.Path.{ap}
use lib.ListN.{length}
use Rattle.slots.specs.Area.{slot_put}
use Rattle.slots.proofs.write_slot.Goals as goal

pub returns : goal.returns
returns c = let s = c.args in ap (slot_put (length s.row.now) s.area.now s.i) c.copy.ensures

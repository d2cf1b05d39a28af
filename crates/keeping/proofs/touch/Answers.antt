-- `touch`: the two atoms of the pair are put in, one after the other.
use Rattle.std.proofs.Common.{arith}
use Rattle.keeping.specs.Marks.{atom-room, touched-both}
use Rattle.keeping.proofs.touch.Goals as goal

pub include-requires : goal.include-requires
include-requires c = omega (arith, c.single.ensures, (atom-room _ _ _ _ _ _ c.values_in-values.ensures).1, c.requires.2)

pub include-requires-2 : goal.include-requires-2
include-requires-2 c = omega (arith, c.single-2.ensures, (atom-room _ _ _ _ _ _ c.values_in-values.ensures).2, c.requires.2, c.include.ensures.long)

pub returns : goal.returns
returns c = touched-both _ _ _ _ _ _ _ _ _ _ _ c.values_in-values.ensures c.single.ensures c.include.ensures c.single-2.ensures c.include-2.ensures

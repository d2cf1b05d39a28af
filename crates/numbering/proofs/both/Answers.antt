-- `both` meets its contract: the number stands in the plane of the two variables.
use Rattle.numbering.specs.Planes.{plane-small}
use Rattle.numbering.proofs.both.Goals as goal

pub number-requires : goal.number-requires
number-requires c = let (small, apart, _, _, h, k) = c.requires in plane-small _ _ _ _ _ _ small apart c.plane_of.ensures h k

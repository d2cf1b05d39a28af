-- `is_closed`: the table has room for every atom.
use native.Mathlib.Omega.{arith}
use Rattle.numbering.specs.Sizes.{atoms-most}
use Rattle.pairs.proofs.is_closed.Goals as goal

pub fill_possible-requires : goal.fill_possible-requires
fill_possible-requires c = let ready = c.requires in (ready, omega (arith, atoms-most _ ready.limits))

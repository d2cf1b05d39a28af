-- `first_block`: it is empty, and the first features of two variables begin behind the atoms.
use Rattle.numbering.specs.Order.{first-stands}
use Rattle.numbering.proofs.first_block.Goals as goal

pub returns : goal.returns
returns c = (first-stands _ _ c.requires.1 c.atoms-all.ensures, c.atoms-all.ensures)

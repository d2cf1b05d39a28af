-- `single` meets its contract: the sum is the definition's, and it stays within the atoms.
use Rattle.std.proofs.Common.{arith}
use Rattle.meaning.specs.Feature.{atoms, single}
use Rattle.theory.specs.Numbering.{front-room}
use Rattle.numbering.specs.Sizes.{sum-small}
use Rattle.numbering.proofs.single.Goals as goal

pub overflow_add-result : goal.overflow_add-result
unfolding atoms
overflow_add-result c = omega (arith, front-room c.args.sizes.now c.args.i, sum-small _ c.requires.0, c.atoms.ensures)

pub returns : goal.returns
unfolding single atoms
returns c = omega (arith, c.atoms.ensures)

-- `first_pair`: the first block begins behind the atoms.
use native.Mathlib.Omega.{arith}
use Rattle.numbering.specs.Sizes.{limits-small}
use Rattle.theory.specs.Numbering.{atoms-room}
use Rattle.pairs.proofs.first_pair.Goals as goal

pub first_block-block-requires : goal.first_block-block-requires
first_block-block-requires c = let (listed, all) = c.requires in (limits-small _ listed.limits, omega (arith, listed.limits.variables))

pub pair_from-requires : goal.pair_from-requires
pair_from-requires c = let (listed, all) = c.requires in
    (listed, all, c.first_block-block.ensures.0, omega arith, omega (arith, all, c.first_block-block.ensures.1, atoms-room c.args.sizes.now))

pub returns : goal.returns
returns c = rw (← c.first_block-block.ensures.1) c.pair_from.ensures

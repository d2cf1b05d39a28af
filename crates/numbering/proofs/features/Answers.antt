-- `features` meets its contract: after some sizes the two sums count the atoms and the pairs of their variables.
use Rattle.std.proofs.Common.{arith, refl}
use Rattle.meaning.specs.Feature.{sum_of, pairs_of}
use Rattle.numbering.specs.Sums.{atoms-turn, pairs-turn, counted}
use Rattle.numbering.specs.Sizes.{features-small}
use Rattle.numbering.proofs.features.Goals as goal

pub loop-size-init : goal.loop-size-init
unfolding sum_of pairs_of
loop-size-init c = (refl, refl)

pub overflow_mul-pairs : goal.overflow_mul-pairs
overflow_mul-pairs c = let (atoms, pairs) = c.loop-size.invariant in omega (arith, pairs-turn _ _ _ _ c.requires refl atoms _ pairs)

pub overflow_add-pairs : goal.overflow_add-pairs
overflow_add-pairs c = let (atoms, pairs) = c.loop-size.invariant in omega (arith, pairs-turn _ _ _ _ c.requires refl atoms _ pairs)

pub overflow_add-atoms : goal.overflow_add-atoms
overflow_add-atoms c = omega (arith, atoms-turn _ _ _ _ c.requires refl c.loop-size.invariant.0)

pub loop-size-preserved : goal.loop-size-preserved
loop-size-preserved c = let s = c.requires in let (atoms, pairs) = c.loop-size.invariant in
    ((atoms-turn _ _ _ _ s refl atoms).0, (pairs-turn _ _ _ _ s refl atoms _ pairs).0)

pub overflow_add-result : goal.overflow_add-result
overflow_add-result c = omega (arith, counted _ _ _ _ c.loop-size-test.false c.loop-size.invariant.0 c.loop-size.invariant.1, features-small _ c.requires)

pub returns : goal.returns
returns c = counted _ _ _ _ c.loop-size-test.false c.loop-size.invariant.0 c.loop-size.invariant.1

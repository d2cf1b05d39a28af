-- `put_pairs`: the pairs are renumbered into a part of the header, which is put back.
use native.Mathlib.Omega.{arith}
use Rattle.renumbering.specs.Header.{total-most, own-renumbers, pairs-put}
use Rattle.renumbering.proofs.put_pairs.Goals as goal

pub places_for-places-requires : goal.places_for-places-requires
places_for-places-requires c = let p = c.requires in (p.0.headed.variables, omega (arith, total-most _ _ _ p.0, p.2))

pub renumber-requires : goal.renumber-requires
renumber-requires c = let p = c.requires in
    own-renumbers _ _ _ p.0 _ p.2 _ c.places_for-places.ensures _ _ c.sizes.ensures c.pairs.ensures _ _ p.1 p.3 p.4

pub returns : goal.returns
returns c = let p = c.requires in
    pairs-put _ _ _ p.0 _ p.2 _ c.places_for-places.ensures _ _ c.sizes.ensures c.pairs.ensures _ _ c.renumber.ensures

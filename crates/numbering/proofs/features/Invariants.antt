-- `features` meets its contract: after some sizes the two sums count the atoms and the pairs of their variables.
use Rattle.std.specs.Prelude.{◌≡◌, take}
use Rattle.meaning.specs.Feature.{sum_of, pairs_of}
use Rattle.numbering.proofs.features.Given as goal

abbrev pub invariant-loop-size : goal.invariant-loop-size
invariant-loop-size l = (l.atoms ≡ sum_of (take l.size-index l.sizes)) × (l.pairs ≡ pairs_of (take l.size-index l.sizes))

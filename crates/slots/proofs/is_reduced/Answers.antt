-- `slots::is_reduced`: lends room for the indices.
use native.Mathlib.Omega.{arith}
use lib.ListN.{length-take}
use Rattle.slots.proofs.is_reduced.Goals as goal

pub slice_bounds-is_reduced_by-end : goal.slice_bounds-is_reduced_by-end
slice_bounds-is_reduced_by-end c = simp length-take (omega (arith, c.requires))

pub is_reduced_by-requires : goal.is_reduced_by-requires
is_reduced_by-requires c = (c.requires.0, simp length-take (omega (arith, c.requires)), c.requires.1)

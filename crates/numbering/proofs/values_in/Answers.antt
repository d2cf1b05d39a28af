-- `values_in`: the place in a block is two digits, and the second variable's size is their base.
use native.Mathlib.Omega.{arith}
use Rattle.numbering.specs.Order.{value_room, values_join}
use Rattle.numbering.proofs.values_in.Goals as goal

pub returns : goal.returns
returns c = values_join _ _ _ _ c.requires c.size-d.ensures

pub nonzero_div-result : goal.nonzero_div-result
nonzero_div-result c = omega (arith, value_room _ _ _ _ c.requires c.size-d.ensures)

pub nonzero_rem-result : goal.nonzero_rem-result
nonzero_rem-result c = omega (arith, value_room _ _ _ _ c.requires c.size-d.ensures)

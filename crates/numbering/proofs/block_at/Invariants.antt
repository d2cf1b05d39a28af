-- `block_at`: each block on the way stands in its place and begins at f or before.
use Prim.Native.Nat.{◌≤◌}
use Rattle.numbering.specs.Order.{Stands, blocks_left}
use Rattle.numbering.proofs.block_at.Given as goal

abbrev pub invariant-loop-here : goal.invariant-loop-here
invariant-loop-here l = Stands l.sizes l.here × (l.here.start ≤ l.f)

abbrev pub decreases-loop-here : goal.decreases-loop-here
decreases-loop-here l = blocks_left l.sizes l.here

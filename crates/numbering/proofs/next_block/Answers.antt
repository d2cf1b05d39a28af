-- `next_block`: a block ends where the next one begins.
use Prim.Native.Nat.{◌+◌, ◌*◌, ◌≤◌}
use native.Mathlib.Omega.{arith}
use native.Mathlib.Numerals.{add-one}
use Rattle.meaning.specs.Limits.{most_atoms}
use Rattle.numbering.specs.Sizes.{most_pairs}
use Rattle.numbering.specs.Order.{along-small, along-follows, down-follows}
use Rattle.numbering.proofs.next_block.Goals as goal
use Rattle.numbering.proofs.next_block.Goals.{After-size-then-second-sizes}

-- What one product more leads to.
small : (c : After-size-then-second-sizes) → c.args.block.end + c.size.result * c.size-then-second-sizes.result ≤ most_atoms + most_pairs
small c = let (sizes, stands, below) = c.requires in
    along-small _ _ sizes stands _ _ _ (omega arith) c.if-second-sizes.true c.size.ensures c.size-then-second-sizes.ensures

pub overflow_add-result : goal.overflow_add-result
overflow_add-result c = omega (arith, small (goal.at.overflow_add-result c).After-size-then-second-sizes)

pub returns-then-second-sizes : goal.returns-then-second-sizes
returns-then-second-sizes c = let (sizes, stands, below) = c.requires in
    along-follows _ _ sizes stands _ _ _ (add-one _) c.if-second-sizes.true c.size.ensures c.size-then-second-sizes.ensures

pub returns : goal.returns
returns c = let (sizes, stands, below) = c.requires in down-follows _ _ sizes stands _ (add-one _) (omega arith) below

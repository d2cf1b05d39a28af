-- `items_below` meets its contract: bounds are laid where the numbers go, and the numbers are read over them.
use mathlib.Core.Path.{◌≡◌}
use native.Mathlib.Omega.{arith}
use lib.ListN.{length}
use Rattle.reader.specs.Lists.{apart-same, laid, laid-length, items-over}
use Rattle.reader.proofs.items_below.Goals as goal
use Rattle.reader.proofs.items_below.Goals.{After-copy}

-- Words with bounds are as long as before.
long : (c : After-copy) → let a = c.args in length (laid a.words.now a.to a.count c.copy.new.into) ≡ length a.words.now
long c = laid-length _ _ _ c.args.bound c.requires.0 c.requires.1 _ c.copy.ensures

pub items_at-requires : goal.items_at-requires
items_at-requires c = (omega (arith, long (goal.at.items_at-requires c).After-copy, c.requires.1), omega (arith, long (goal.at.items_at-requires c).After-copy, c.requires.1), apart-same _ _)

pub returns : goal.returns
returns c = items-over _ _ _ c.args.bound c.requires.0 c.requires.1 _ c.copy.ensures _ _ _ _ _ _ c.items_at.ensures

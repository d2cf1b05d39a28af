-- `fill_befores` meets its contract: after k turns the before values of the first k entries are put in.
use mathlib.Core.Path.{refl}
use Rattle.rows.specs.Base.{with_befores, befores-turn}
use Rattle.rows.proofs.fill_befores.Goals as goal

pub loop-k-init : goal.loop-k-init
unfolding with_befores
loop-k-init c = refl

pub loop-k-preserved : goal.loop-k-preserved
loop-k-preserved c = rw c.at-entry.ensures (befores-turn _ _ _ _ c.loop-k.invariant)

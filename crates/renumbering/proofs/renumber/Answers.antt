-- `renumber`: after each variable, the pairs with those before as the first are in.
use mathlib.Core.Path.{◌≡◌}
use native.Mathlib.Omega.{arith}
use lib.ListN.{length}
use Rattle.words.specs.Toggled.{toggled-start, toggled-turn}
use Rattle.renumbering.specs.Pairs.{renumbered-packed}
use Rattle.renumbering.proofs.renumber.Goals as goal

pub loop-i-init : goal.loop-i-init
loop-i-init c = toggled-start _ _

pub loop-i-preserved : goal.loop-i-preserved
loop-i-preserved c = toggled-turn _ _ _ _ _ c.loop-i.invariant c.renumber_row.ensures

pub returns : goal.returns
returns c = let e : c.loop-i.i ≡ length c.args.sizes.now = omega arith in
    renumbered-packed c.args.sizes.now c.args.old.now _ (rw (← c.requires.1, ← e) c.loop-i.invariant)

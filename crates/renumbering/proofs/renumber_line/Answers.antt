-- `renumber_line`: after each value of the second variable, the pairs with those before are in.
use mathlib.Core.Path.{◌≡◌}
use native.Mathlib.Omega.{arith}
use Rattle.words.specs.Toggled.{toggled-start, toggled-turn}
use Rattle.renumbering.specs.Pairs.{line_pairs}
use Rattle.renumbering.proofs.renumber_line.Goals as goal

pub loop-y-init : goal.loop-y-init
loop-y-init c = toggled-start _ _

pub loop-y-preserved : goal.loop-y-preserved
loop-y-preserved c = toggled-turn _ _ _ _ _ c.loop-y.invariant (rw (← c.number.ensures, ← c.number-in-loop-y.ensures) c.renumber_pair.ensures)

pub returns : goal.returns
unfolding line_pairs
returns c = let e : c.loop-y.y ≡ c.args.end = omega arith in rw (← e) c.loop-y.invariant

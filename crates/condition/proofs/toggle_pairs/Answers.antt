-- `toggle_pairs`: after j turns the pairs among the first j variables are toggled.
use mathlib.Core.Path.{◌≡◌, ◌∙◌}
use native.Mathlib.Omega.{arith}
use lib.ListN.{length}
use Rattle.words.specs.Toggled.{toggled-start, toggled-turn}
use Rattle.condition.specs.Ends.{true_pairs}
use Rattle.condition.proofs.toggle_pairs.Goals as goal

pub loop-j-init : goal.loop-j-init
loop-j-init c = toggled-start _ _

pub loop-j-preserved : goal.loop-j-preserved
loop-j-preserved c = toggled-turn _ _ _ _ _ c.loop-j.invariant c.toggle_pairs_of.ensures

pub returns : goal.returns
unfolding true_pairs
returns c = let e : c.loop-j.j ≡ length c.args.sizes.now = omega arith in c.loop-j.invariant ∙ rw e

-- `renumber_row`: after each second variable, the pairs with those before are in.
use mathlib.Core.Path.{◌≡◌, ◌∙◌}
use native.Mathlib.Omega.{arith}
use lib.ListN.{length}
use Rattle.words.specs.Toggled.{toggled-start, toggled-turn}
use Rattle.renumbering.specs.Pairs.{row_pairs}
use Rattle.renumbering.proofs.renumber_row.Goals as goal

pub loop-j-init : goal.loop-j-init
loop-j-init c = toggled-start _ _

pub loop-j-preserved : goal.loop-j-preserved
loop-j-preserved c = toggled-turn _ _ _ _ _ c.loop-j.invariant c.renumber_block.ensures

pub returns : goal.returns
unfolding row_pairs
returns c = let e : c.loop-j.j ≡ length c.args.sizes.now = omega arith in c.loop-j.invariant ∙ rw e

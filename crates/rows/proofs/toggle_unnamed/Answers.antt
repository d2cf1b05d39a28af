-- `toggle_unnamed` meets its contract: after u turns what the first u variables change is toggled.
use Rattle.words.specs.Toggled.{toggled-start, toggled-turn}
use Rattle.rows.proofs.toggle_unnamed.Goals as goal

pub loop-u-init : goal.loop-u-init
loop-u-init c = toggled-start _ _

pub loop-u-preserved : goal.loop-u-preserved
loop-u-preserved c = toggled-turn _ _ _ _ _ c.loop-u.invariant c.toggle_value.ensures

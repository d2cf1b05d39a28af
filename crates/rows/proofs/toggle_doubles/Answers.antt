-- `toggle_doubles` meets its contract: after l turns what the first l entries change two by two is toggled.
use mathlib.Core.Path.{◌≡◌, ◌∙◌}
use native.Mathlib.Omega.{arith}
use lib.ListN.{length}
use Rattle.words.specs.Toggled.{toggled-start, toggled-turn}
use Rattle.rows.specs.Change.{named_features}
use Rattle.rows.proofs.toggle_doubles.Goals as goal

pub loop-l-init : goal.loop-l-init
loop-l-init c = toggled-start _ _

pub loop-l-preserved : goal.loop-l-preserved
loop-l-preserved c = toggled-turn _ _ _ _ _ c.loop-l.invariant c.toggle_earlier.ensures

pub returns : goal.returns
unfolding named_features
returns c = let e : c.loop-l.l ≡ length c.args.entries.now = omega arith in c.loop-l.invariant ∙ rw e

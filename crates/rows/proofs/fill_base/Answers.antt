-- `fill_base` meets its contract: the least values with the before values put in are the base state.
use mathlib.Core.Path.{◌∙◌, ap}
use lib.ListN.{length}
use Rattle.theory.specs.Given.{entry-fine}
use Rattle.rows.specs.Base.{length-least, base-filled}
use Rattle.rows.proofs.fill_base.Goals as goal

pub fill_befores-requires : goal.fill_befores-requires
fill_befores-requires c = λ k l. rw (ap length c.fill_least.ensures ∙ length-least _ _) (entry-fine c.requires.0 k l).0

pub returns : goal.returns
returns c = c.fill_befores.ensures ∙ base-filled c.requires.0 _ _ c.fill_least.ensures

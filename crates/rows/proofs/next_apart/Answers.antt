-- `next_apart` meets its contract: what is wanted from the start is what is wanted from the place reached.
use mathlib.Core.Path.{◌∙◌}
use native.Mathlib.Omega.{arith}
use Rattle.rows.specs.Apart.{from_found, from_next, from_end}
use Rattle.rows.proofs.next_apart.Goals as goal

pub returns-in-Some : goal.returns-in-Some
returns-in-Some c = c.loop-variable.invariant.1 ∙ from_found _ _ _ _ _ c.in-Some.ensures

pub loop-variable-preserved : goal.loop-variable-preserved
loop-variable-preserved c = (omega arith, c.loop-variable.invariant.1 ∙ from_next _ _ _ _ c.loop-variable.invariant.0 c.in_default.ensures)

pub returns : goal.returns
returns c = c.loop-variable.invariant.1 ∙ from_end _ _ _ _ (omega arith)

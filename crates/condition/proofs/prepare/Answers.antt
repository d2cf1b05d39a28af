-- `prepare`: the state made from the table of possible atoms is the base state (`base-by`).
use mathlib.Core.Path.{◌∙◌}
use Rattle.rows.specs.Base.{base-by}
use Rattle.condition.proofs.prepare.Goals as goal

pub returns : goal.returns
returns c = let table = c.fill_possible.ensures.1 in (c.is_idle.ensures, table, c.fill_base.ensures ∙ base-by _ _ _ _ (λ f l. table.each f))

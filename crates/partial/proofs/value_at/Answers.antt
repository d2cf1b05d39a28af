-- `value_at` meets its contract: the mark decides between the two answers.
use mathlib.Core.Path.{sym, ◌∙◌}
use Rattle.partial.specs.Goal.{value-named, value-silent}
use Rattle.partial.proofs.value_at.Goals as goal

pub returns-then-mark-eq1 : goal.returns-then-mark-eq1
returns-then-mark-eq1 c = c.item_at.ensures ∙ sym (value-named _ _ _ _ c.if-mark-eq1.true)

pub returns : goal.returns
returns c = sym (value-silent _ _ _ _ c.if-mark-eq1.false)

-- `slots::clear_index`: each way out is a case of `cleared`.
use mathlib.Core.Path.{sym, ◌∙◌}
use Rattle.slots.specs.Change.{cleared}
use Rattle.slots.proofs.clear_index.Goals as goal

pub returns-then-has : goal.returns-then-has
unfolding cleared
returns-then-has c = rw (sym c.has.ensures ∙ c.if-has.true) c.add_from.ensures

pub returns-else-has : goal.returns-else-has
unfolding cleared
returns-else-has c = rw (sym c.has.ensures ∙ c.if-has.false)

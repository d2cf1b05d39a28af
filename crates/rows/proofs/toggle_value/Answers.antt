-- `toggle_value` meets its contract: the test says whether the variable is named.
use mathlib.Core.Path.{sym, ◌∙◌}
use Rattle.words.specs.Toggled.{toggled-none}
use Rattle.rows.specs.Change.{unnamed_features}
use Rattle.rows.proofs.toggle_value.Goals as goal

pub returns-then-not-names : goal.returns-then-not-names
unfolding unnamed_features
returns-then-not-names c = c.toggle_beside.ensures ∙ rw (sym c.names.ensures ∙ c.if-not-names.true)

pub returns-else-not-names : goal.returns-else-not-names
unfolding unnamed_features
returns-else-not-names c = rw (sym c.names.ensures ∙ c.if-not-names.false) (sym (toggled-none _))

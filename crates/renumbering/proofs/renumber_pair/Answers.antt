-- `renumber_pair`: one toggle, if the old number is listed.
use mathlib.Core.Path.{sym, ◌∙◌}
use Rattle.words.specs.Toggled.{toggled-none, toggled-one}
use Rattle.renumbering.proofs.renumber_pair.Goals as goal

pub returns-then-not-has : goal.returns-then-not-has
returns-then-not-has c = rw (sym c.has.ensures ∙ c.if-not-has.true) (sym (toggled-none _))

pub returns : goal.returns
returns c = rw (sym c.has.ensures ∙ c.if-not-has.false) (c.toggle.ensures ∙ sym (toggled-one _ _))

-- `include`: a member stays, and what is none is toggled.
use Rattle.std.proofs.Common.{sym, ◌∙◌}
use Rattle.words.specs.Change.{included-already, included-now}
use Rattle.words.proofs.include.Goals as goal

pub returns-then-not-has : goal.returns-then-not-has
returns-then-not-has c = included-now _ _ _ (sym c.has.ensures ∙ c.if-not-has.true) c.requires c.toggle.ensures

pub returns-else-not-has : goal.returns-else-not-has
returns-else-not-has c = included-already _ _ (sym c.has.ensures ∙ c.if-not-has.false)

-- `neighbours`: slots of one row whose columns are one apart are neighbours.
use mathlib.Core.Path.{sym, ◌∙◌}
use Rattle.std.proofs.Common.{true≢false}
use borrow.Author.Tests.{eq-eqb, ne_eqb}
use Rattle.meaning.specs.Bay.{neighbours}
use Rattle.building.proofs.neighbours.Goals as goal
use Rattle.building.proofs.neighbours.Goals.{then-p-columns, else-p-columns}

pub returns-then-one_apart : goal.returns-then-one_apart
unfolding neighbours
returns-then-one_apart c = elim c.if-p-columns.branch [
  | then-p-columns w ↦ rw (eq-eqb _ _ w.if-p-columns.true, sym (w.value-is ∙ w.one_apart.ensures) ∙ c.if-one_apart.true) c.if-one_apart.true
  | else-p-columns w ↦ absurd (true≢false (sym c.if-one_apart.true ∙ w.value-is ∙ ne_eqb _ _ w.if-p-columns.false))
]

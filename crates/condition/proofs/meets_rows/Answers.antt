-- `meets_rows`: an idle operator has no rows; those of another are given by its table and its base state (`rows-by`).
use mathlib.Core.Path.{ap, sym, ◌∙◌}
use Rattle.condition.specs.Walk.{prepared, rows-by, idle-rows, allowed-even, all_even, even-none}
use Rattle.condition.proofs.meets_rows.Goals as goal

pub returns-then-prepare : goal.returns-then-prepare
returns-then-prepare c = sym (allowed-even _ _ _ _ ∙ ap (all_even _ _) (idle-rows _ _ _ (sym c.prepare.ensures.0 ∙ c.if-prepare.true)) ∙ even-none _ _)

pub returns : goal.returns
returns c = c.all_even.ensures ∙ sym (allowed-even _ _ _ _ ∙ ap (all_even _ _) (rows-by (prepared c.requires.0 c.prepare.ensures c.if-prepare.false)))

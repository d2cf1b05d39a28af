-- `program_line`: files of which one is too long are refused, any others have the line of their verdict.
use mathlib.Core.Path.{refl, sym, ◌∙◌}
use Rattle.verdicts.proofs.program_line.Goals as goal

pub returns-then-are_long : goal.returns-then-are_long
returns-then-are_long c = rw (sym c.are_long.ensures ∙ c.if-are_long.true) (_, refl, c.refuse_long.ensures)

pub returns : goal.returns
returns c = rw (sym c.are_long.ensures ∙ c.if-are_long.false) c.line.ensures

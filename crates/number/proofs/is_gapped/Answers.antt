-- `is_gapped` answers by the first number.
use mathlib.Core.Path.{sym, ap, ◌∙◌}
use Rattle.meaning.specs.File.{kind_of}
use Rattle.number.specs.Answers.{number_of}
use Rattle.number.proofs.is_gapped.Goals as goal

pub returns-in-Ok : goal.returns-in-Ok
unfolding kind_of
returns-in-Ok c = simp (sym c.number_at.ensures ∙ ap number_of c.in-Ok.is)

pub returns-in-Err : goal.returns-in-Err
unfolding kind_of
returns-in-Err c = simp (sym c.number_at.ensures ∙ ap number_of c.in-Err.is)

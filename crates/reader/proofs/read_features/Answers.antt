-- `read_features` meets its contract: features that increase are toggled once each in words that hold none.
use Rattle.std.proofs.lemmas.Result.{err_from_is_err_and}
use mathlib.Core.Path.{sym}
use Rattle.reader.specs.Answer.{answer-fault}
use Rattle.reader.specs.Features.{list-fault, list_read}
use Rattle.reader.proofs.read_features.Goals as goal

pub returns : goal.returns
returns c = list_read _ _ _ _ _ _ _ _ _ _ c.requires.0 c.requires.1 (sym c.in_ok-count.ensures) c.features_at.ensures

pub returns-in_err-count : goal.returns-in_err-count
returns-in_err-count c = let p = err_from_is_err_and c.from_residual.result c.from_residual.ensures.1 in rw (p.1, p.2) (answer-fault _ _ _ _ (list-fault _ _ _ _ _ _ _ (sym c.in_err-count.ensures)))

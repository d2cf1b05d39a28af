-- `read_weights` meets its contract: the list stands behind the mark.
use Rattle.std.proofs.lemmas.Result.{err_from_is_err_and}
use Rattle.reader.specs.Header.{weights-marked, weights-unmarked}
use Rattle.reader.proofs.read_weights.Goals as goal

pub returns : goal.returns
returns c = weights-marked _ _ _ _ _ _ _ c.in_ok-at.ensures c.read_list.ensures

pub returns-in_err-at : goal.returns-in_err-at
returns-in_err-at c = let p = err_from_is_err_and c.from_residual.result c.from_residual.ensures.1 in rw (p.1, p.2) (weights-unmarked _ _ _ _ _ _ c.in_err-at.ensures)

-- `read_list` meets its contract: each answer is one law on the list of features and the place after it.
use Rattle.std.proofs.lemmas.Result.{err_from_is_err_and}
use Rattle.reader.specs.Header.{list-unread, list_over, list-whole}
use Rattle.reader.proofs.read_list.Goals as goal

pub returns-then-next-bytes : goal.returns-then-next-bytes
returns-then-next-bytes c = list_over _ _ _ _ _ _ _ c.in_ok-next.ensures c.if-next-bytes.true

pub returns : goal.returns
returns c = list-whole _ _ _ _ _ _ _ c.in_ok-next.ensures c.if-next-bytes.false

pub returns-in_err-next : goal.returns-in_err-next
returns-in_err-next c = let p = err_from_is_err_and c.from_residual.result c.from_residual.ensures.1 in rw (p.1, p.2) (list-unread _ _ _ _ _ _ _ c.in_err-next.ensures)

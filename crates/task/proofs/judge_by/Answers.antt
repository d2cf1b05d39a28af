-- `judge_by`: the mark that was read, and what is judged behind it.
use Rattle.std.proofs.lemmas.Result.{err_from_is_err_and}
use Rattle.task.specs.Answer.{marked-judged, unmarked-judged}
use Rattle.task.proofs.judge_by.Goals as goal

pub returns-in_err-at : goal.returns-in_err-at
returns-in_err-at c =
    let p = err_from_is_err_and c.from_residual.result c.from_residual.ensures.1 in
    rw (p.1, p.2) (unmarked-judged _ _ _ _ _ _ c.in_err-at.ensures)

pub returns : goal.returns
returns c = marked-judged _ _ _ _ _ _ _ c.in_ok-at.ensures c.judge_parts.ensures

-- `judge`: the front that was read, in words of its own; then what is judged behind it.
use Rattle.std.proofs.lemmas.Result.{err_from_is_err_and}
use Rattle.theory.specs.PartialParts.{out_for}
use Rattle.task.specs.Answer.{front-told, front-faulted}
use Rattle.order.specs.Front.{front-unread}
use Rattle.order.proofs.judge.Goals as goal

pub judge_rest-requires : goal.judge_rest-requires
judge_rest-requires c = ((_, front-told _ _ _ _ c.in_ok-front.ensures), c.requires.0, c.requires.1)

pub returns-in_err-front : goal.returns-in_err-front
returns-in_err-front c =
    let p = err_from_is_err_and c.from_residual.result c.from_residual.ensures.1 in
    rw (p.1, p.2) (front-unread (out_for c.args.lean) _ _ (front-faulted _ _ _ _ c.in_err-front.ensures))

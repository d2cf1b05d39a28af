-- `open`: what is known of an accepted task goes to `open_accepted`; a refusal is answered by its number.
use Rattle.std.specs.Prelude.{refl}
use Rattle.std.proofs.lemmas.Result.{err_from_is_err_and}
use Rattle.task.specs.Answer.{judged-refused}
use Rattle.order.specs.With.{task-with}
use Rattle.opening.proofs.open.Goals as goal

pub open_accepted-requires : goal.open_accepted-requires
open_accepted-requires c = (_, _, task-with _ _ _ _ c.in_ok-header.ensures)

pub returns : goal.returns
returns c = c.open_accepted.ensures _ _ (task-with _ _ _ _ c.in_ok-header.ensures)

pub returns-in_err-header : goal.returns-in_err-header
returns-in_err-header c =
    let p = err_from_is_err_and c.from_residual.result c.from_residual.ensures.1 in
    rw (p.1, p.2, judged-refused _ _ _ _ c.in_err-header.ensures) refl

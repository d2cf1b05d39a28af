-- `check_as`: what is known of an accepted task goes to `weigh`; a refusal is answered by its number.
use Rattle.std.specs.Prelude.{refl}
use Rattle.task.specs.Answer.{judged-refused}
use Rattle.order.specs.With.{task-with}
use Rattle.checking.proofs.check_as.Goals as goal

pub weigh-requires : goal.weigh-requires
weigh-requires c = (_, _, task-with _ _ _ _ c.in-Ok.ensures)

pub returns-in-Ok : goal.returns-in-Ok
returns-in-Ok c = c.weigh.ensures _ _ (task-with _ _ _ _ c.in-Ok.ensures)

pub returns-in-Err : goal.returns-in-Err
returns-in-Err c = rw (judged-refused _ _ _ _ c.in-Err.ensures, c.from.ensures) refl

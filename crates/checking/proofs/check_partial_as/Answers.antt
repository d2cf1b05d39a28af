-- `check_partial_as`: what is known of the task that is built goes to `weigh`; a refusal is answered by its number.
use Rattle.order.specs.With.{partial-with}
use Rattle.checking.proofs.check_partial_as.Goals as goal

pub weigh-requires : goal.weigh-requires
weigh-requires c = (_, _, partial-with _ _ _ _ c.in-Ok.ensures)

pub returns-in-Ok : goal.returns-in-Ok
returns-in-Ok c = c.weigh.ensures _ _ (partial-with _ _ _ _ c.in-Ok.ensures)

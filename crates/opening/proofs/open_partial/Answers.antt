-- `open_partial`: what is known of an accepted file goes to `open_accepted`; a refusal is answered by its number.
use Rattle.order.specs.With.{partial-with}
use Rattle.opening.proofs.open_partial.Goals as goal

pub open_accepted-requires : goal.open_accepted-requires
open_accepted-requires c = (_, _, partial-with _ _ _ _ c.in_ok-judged.ensures)

pub returns : goal.returns
returns c = c.open_accepted.ensures _ _ (partial-with _ _ _ _ c.in_ok-judged.ensures)

-- `put_states`: count, sizes, start and goal stand one behind the other (`states-put`).
use Rattle.renumbering.specs.Header.{states-put}
use Rattle.renumbering.proofs.put_states.Goals as goal

pub returns : goal.returns
returns c = states-put _ _ _ c.requires.0 _ c.requires.1 _ _ _ _ _ _ _ _ _ c.put.ensures c.put-2.ensures c.start.ensures c.start_at.ensures c.put-3.ensures
    c.goal.ensures c.goal_at.ensures c.put-4.ensures

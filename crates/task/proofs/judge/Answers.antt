-- `judge`: a file of the kind that its first number says, judged wholly.
use Rattle.task.specs.Rest.{either-judged}
use Rattle.task.proofs.judge.Goals as goal

pub returns : goal.returns
returns c = rw (either-judged _ _ c.is_gapped.ensures) at c.judge_by.ensures

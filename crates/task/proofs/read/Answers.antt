-- `read`: a file of the kind that its first number says, judged up to 5.
use Rattle.task.specs.Rest.{either-read}
use Rattle.task.proofs.read.Goals as goal

pub returns : goal.returns
returns c = rw (either-read _ _ c.is_gapped.ensures) at c.judge_by.ensures

-- `judge_as`: a file of a kind, judged wholly.
use Rattle.task.specs.Rest.{file_by}
use Rattle.task.proofs.judge_as.Goals as goal

pub returns : goal.returns
unfolding file_by
returns c = c.judge_by.ensures

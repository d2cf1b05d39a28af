-- `task_spot`: the first fault of the task.
use Rattle.std.proofs.Common.{ap}
use Rattle.placing.specs.Answers.{spot_of}
use Rattle.meaning.specs.Place.{nowhere, in_task}
use Rattle.task.specs.Answer.{judged-told, judged-refused}
use Rattle.locating.specs.Spots.{err-some, err-none, fault-spot, next-spot}
use Rattle.locating.proofs.task_spot.Goals as goal

pub returns-in_err-err : goal.returns-in_err-err
returns-in_err-err c =
    let (header, e) = err-none _ c.in_err-err.ensures.value in
    let told = judged-told _ _ _ header (rw e at c.judge.ensures) in
    next-spot in_task (λ _. nowhere) _ _ told.task told.next told.judged (ap spot_of c.from_residual.ensures)

pub returns : goal.returns
returns c =
    let fault = c.in_ok-err.field-0 in
    fault-spot in_task (λ _. nowhere) _ _ fault (judged-refused _ _ _ fault (rw (err-some _ fault c.in_ok-err.ensures.value) at c.judge.ensures)) c.fault_spot.ensures

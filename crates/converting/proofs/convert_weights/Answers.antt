-- `convert_weights`: the task is judged, then the weights are converted over its features; a refusal is answered as it is.
use Rattle.std.proofs.Common.{◌≤◌, arith}
use Rattle.std.proofs.Math.ListN.{length-take}
use Rattle.std.proofs.lemmas.Result.{err_from_is_err_and}
use Rattle.meaning.specs.Limits.{most_features}
use Rattle.meaning.specs.File.{kind_if}
use Rattle.layout.specs.Parts.{room-zeros}
use Rattle.task.specs.Answer.{judged-accepted, judged-refused, known-room}
use Rattle.converting.specs.Answer.{weights-beside, weights-task-refused}
use Rattle.converting.proofs.convert_weights.Goals as goal
use Rattle.converting.proofs.convert_weights.Goals.{In_ok-header}

-- Its features are few.
few : (c : In_ok-header) → c.in_ok-header.header.features ≤ most_features
few c = (known-room (judged-accepted _ _ _ _ c.in_ok-header.ensures).accepted).features

pub returns-in_err-header : goal.returns-in_err-header
returns-in_err-header c =
    let a = c.args in
    let p = err_from_is_err_and c.from_residual.result c.from_residual.ensures.1 in
    rw (p.1, p.2) (weights-task-refused (kind_if a.gapped) a.task.now a.weights.now a.room.now _ (judged-refused _ _ _ _ c.in_err-header.ensures))

pub words_for-w-requires : goal.words_for-w-requires
words_for-w-requires c = few c

pub slice_bounds-words-end : goal.slice_bounds-words-end
slice_bounds-words-end c = omega (arith, c.words_for-w.ensures, few (goal.at.slice_bounds-words-end c).In_ok-header)

pub slice_bounds-convert_list-end : goal.slice_bounds-convert_list-end
slice_bounds-convert_list-end c = simp length-take (omega (arith, c.words_for-w.ensures, few (goal.at.slice_bounds-convert_list-end c).In_ok-header))

pub convert_list-requires : goal.convert_list-requires
convert_list-requires c = let few' = few (goal.at.convert_list-requires c).In_ok-header in (few', room-zeros _ _ few' c.words_for-w.ensures)

pub returns : goal.returns
returns c =
    let a = c.args in
    weights-beside (kind_if a.gapped) a.task.now (judged-accepted _ _ _ _ c.in_ok-header.ensures).accepted a.weights.now a.room.now _ c.convert_list.ensures

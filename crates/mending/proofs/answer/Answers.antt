-- `answer`: what is known of a task that was read goes on with words for its pairs; a refusal is answered as it is.
use Rattle.std.proofs.Common.{◌≤◌, arith}
use Rattle.std.proofs.Math.ListN.{length-take}
use Rattle.std.proofs.lemmas.Result.{err_from_is_err_and}
use Rattle.meaning.specs.Limits.{most_features}
use Rattle.meaning.specs.Workspace.{words_for}
use Rattle.task.specs.Answer.{judged-refused}
use Rattle.mending.specs.Answer.{ReadBy, read-by, headed, answer-refused}
use Rattle.mending.proofs.answer.Goals as goal
use Rattle.mending.proofs.answer.Goals.{After-words_for, In_ok-header}

-- What is known of a task that was read.
known : (c : In_ok-header) → ReadBy c.args.task.now c.read.new.words c.in_ok-header.header
known c = read-by _ _ _ _ c.in_ok-header.ensures

-- Its words are few enough for the array.
few : (c : After-words_for) → c.words_for.result ≤ words_for most_features
few c = omega (arith, c.words_for.ensures, (headed (known (goal.at.After-words_for c).In_ok-header).1).features)

pub returns-in_err-header : goal.returns-in_err-header
returns-in_err-header c = let p = err_from_is_err_and c.from_residual.result c.from_residual.ensures.1 in
    rw (p.1, p.2) (answer-refused _ _ (judged-refused _ _ _ _ c.in_err-header.ensures) c.args.dropping c.args.room.now)

pub words_for-requires : goal.words_for-requires
words_for-requires c = (headed (known c).1).features

pub slice_bounds-pairs-end : goal.slice_bounds-pairs-end
slice_bounds-pairs-end c = few c

pub slice_bounds-pairs-end-2 : goal.slice_bounds-pairs-end-2
slice_bounds-pairs-end-2 c = simp length-take (omega (arith, few (goal.at.slice_bounds-pairs-end-2 c).After-words_for))

pub drop_in-requires : goal.drop_in-requires
drop_in-requires c = (known (goal.at.drop_in-requires c).In_ok-header, simp length-take (omega (arith, few (goal.at.drop_in-requires c).After-words_for, c.words_for.ensures)))

pub mend_in-requires : goal.mend_in-requires
mend_in-requires c = (known (goal.at.mend_in-requires c).In_ok-header, simp length-take (omega (arith, few (goal.at.mend_in-requires c).After-words_for, c.words_for.ensures)))

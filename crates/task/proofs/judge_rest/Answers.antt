-- `judge_rest`: each way out is one of the laws on what is judged behind the header, by what was found up to there.
use Rattle.std.proofs.Common.{◌≡◌, List, sym, ap, ◌∙◌}
use Rattle.std.proofs.lemmas.Result.{err_from_is_err_and}
use Rattle.meaning.specs.Task.{Operator}
use Rattle.meaning.specs.Number.{got}
use Rattle.meaning.specs.File.{operators_of}
use Rattle.number.specs.Answers.{place_of, place-fault, place-next, place-faulted}
use Rattle.task.specs.Rest.{rest-unread, rest_over, rest_read, rest-held, rest-unclosed, rest-got}
use Rattle.task.proofs.judge_rest.Goals as goal
use Rattle.task.proofs.judge_rest.Goals.{In_ok-next}

-- The operators, where all were read.
read : (c : In_ok-next) → let a = c.args in (operators : List Operator) × (operators_of a.sizes.now a.count a.bytes.now a.at ≡ got operators c.in_ok-next.next)
read c = place-next _ _ (sym c.in_ok-next.ensures)

pub returns-in_err-next : goal.returns-in_err-next
returns-in_err-next c =
    let p = err_from_is_err_and c.from_residual.result c.from_residual.ensures.1 in
    rw (p.1, p.2) (sym (place-fault _ _ (rest-unread _ _ _ _ _ _ _ _ _ (place-faulted _ _ (sym c.in_err-next.ensures)))))

pub returns-then-next-bytes : goal.returns-then-next-bytes
returns-then-next-bytes c = sym (ap place_of (rest_over _ _ _ _ _ _ _ _ _ (read (goal.at.returns-then-next-bytes c).In_ok-next).1 c.if-next-bytes.true))

pub returns-then-not-wholly : goal.returns-then-not-wholly
returns-then-not-wholly c = sym (ap place_of (rest_read _ _ _ _ _ _ _ _ _ (read (goal.at.returns-then-not-wholly c).In_ok-next).1 c.if-next-bytes.false c.if-not-wholly.true))

pub returns-then-holds : goal.returns-then-holds
returns-then-holds c = sym (ap place_of (rest-held _ _ _ _ _ _ _ _ _ (read (goal.at.returns-then-holds c).In_ok-next).1 c.if-next-bytes.false c.if-not-wholly.false (sym c.holds.ensures ∙ c.if-holds.true)))

pub returns-then-not-are_closed : goal.returns-then-not-are_closed
returns-then-not-are_closed c = sym (ap place_of (rest-unclosed _ _ _ _ _ _ _ _ _ (read (goal.at.returns-then-not-are_closed c).In_ok-next).1 c.if-next-bytes.false c.if-not-wholly.false
    (sym c.holds.ensures ∙ c.if-holds.false) (sym c.are_closed.ensures ∙ c.if-not-are_closed.true)))

pub returns : goal.returns
returns c = sym (ap place_of (rest-got _ _ _ _ _ _ _ _ _ (read (goal.at.returns c).In_ok-next).1 c.if-next-bytes.false c.if-not-wholly.false
    (sym c.holds.ensures ∙ c.if-holds.false) (sym c.are_closed.ensures ∙ c.if-not-are_closed.false)))

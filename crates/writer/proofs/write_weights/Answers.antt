-- `write_weights` refuses what is judged faulty and what has no room, and otherwise writes the list at the front.
use Rattle.std.proofs.lemmas.Result.{err_from_is_err_and}
use mathlib.Core.Path.{◌≡◌, sym, ap, ◌∙◌}
use native.Mathlib.Omega.{arith}
use Rattle.meaning.specs.Number.{number_bytes}
use Rattle.meaning.specs.File.{counted, weight_bytes}
use Rattle.meaning.specs.Answer.{fine}
use Rattle.writer.specs.Weights.{judged_of, weights_judged}
use Rattle.writer.specs.Remains.{delivered-small, delivered-done}
use Rattle.writer.specs.Judging.{weights-refused, weights-delivered, fine-countable}
use Rattle.writer.proofs.write_weights.Goals as goal
use Rattle.writer.proofs.write_weights.Goals.{In_ok-judge}

-- Where the list has no fault.
accepted : (c : In_ok-judge) → weights_judged 0 c.args.weights.now ≡ fine
accepted c = sym c.judge.ensures ∙ ap judged_of c.in_ok-judge.was

pub list_width-requires : goal.list_width-requires
list_width-requires c = fine-countable _ (accepted c)

pub returns-then-room-list_width : goal.returns-then-room-list_width
unfolding weight_bytes
returns-then-room-list_width c =
    let a = c.args in
    sym (weights-delivered _ a.room.now (accepted (goal.at.returns-then-room-list_width c).In_ok-judge) ∙ delivered-small (counted number_bytes a.weights.now) a.room.now (omega arith))

pub write_list-requires : goal.write_list-requires
write_list-requires c = (fine-countable _ (accepted (goal.at.write_list-requires c).In_ok-judge), omega arith)

pub returns : goal.returns
unfolding weight_bytes
returns c =
    let a = c.args in
    delivered-done (counted number_bytes a.weights.now) a.room.now _ _ (omega arith) c.write_list.ensures.after c.write_list.ensures.written
    ∙ sym (weights-delivered _ a.room.now (accepted (goal.at.returns c).In_ok-judge))

pub returns-in_err-judge : goal.returns-in_err-judge
returns-in_err-judge c =
    let p = err_from_is_err_and c.from_residual.result c.from_residual.ensures.1 in
    rw (p.1, p.2) (sym (weights-refused c.args.weights.now c.args.room.now _ (sym c.in_err-judge.ensures)))

-- `read_front` meets its contract: what is known after the goal, and what is read behind it.
use Rattle.std.proofs.lemmas.Result.{err_from_is_err_and}
use native.Mathlib.Omega.{arith}
use Rattle.reader.specs.States.{AfterStates}
use Rattle.reader.specs.Pairs.{cleared, states-unread, header-behind}
use Rattle.partial.specs.Front.{partial_states_of, partial_front_of}
use Rattle.partial.specs.States.{after-goal}
use Rattle.partial.proofs.read_front.Goals as goal
use Rattle.partial.proofs.read_front.Goals.{In_ok-next}

-- What is known after the goal.
known : (c : In_ok-next) → let a = c.args in AfterStates partial_states_of a.bytes.now a.at a.header.now c.read_states.new.header c.in_ok-next.next
known c = after-goal _ _ _ _ _ c.in_ok-next.ensures

pub read_behind-requires : goal.read_behind-requires
read_behind-requires c = cleared partial_states_of c.args.bytes.now c.args.at _ _ _ (known (goal.at.read_behind-requires c).In_ok-next) c.requires.1 c.requires.0 (omega arith)

pub returns : goal.returns
unfolding partial_front_of
returns c = let a = c.args in
    header-behind partial_states_of a.bytes.now a.at _ _ _ (known (goal.at.returns c).In_ok-next) _ _ _ c.read_behind.ensures

pub returns-in_err-next : goal.returns-in_err-next
unfolding partial_front_of
returns-in_err-next c = let a = c.args in let p = err_from_is_err_and c.from_residual.result c.from_residual.ensures.1 in rw (p.1, p.2) (
    states-unread partial_states_of a.bytes.now a.at a.header.now _ _ _ c.in_err-next.ensures)

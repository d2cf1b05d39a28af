-- `read_states` meets its contract: what is known after the start, and the goal is read over the marks.
use Rattle.std.proofs.lemmas.Result.{err_from_is_err_and}
use Prim.Native.Nat.{◌≤◌}
use mathlib.Core.Path.{refl}
use native.Mathlib.Omega.{arith}
use lib.ListN.{get_or}
use Rattle.meaning.specs.Limits.{most_variables}
use Rattle.reader.specs.Answer.{reads-unread}
use Rattle.reader.specs.States.{AfterStates}
use Rattle.partial.specs.Front.{marked_of, partial_states_of}
use Rattle.partial.specs.States.{after-marked, goal-behind}
use Rattle.partial.proofs.read_states.Goals as goal
use Rattle.partial.proofs.read_states.Goals.{In_ok-next}

-- What is known after the start.
known : (c : In_ok-next) → let a = c.args in AfterStates marked_of a.bytes.now a.at a.header.now c.read_marked.new.header c.in_ok-next.next
known c = after-marked _ _ _ _ _ c.in_ok-next.ensures

few : (c : In_ok-next) → get_or c.read_marked.new.header 0 0 ≤ most_variables
few c = rw (known c).count (known c).known.0.variables.1

pub read_goal-requires : goal.read_goal-requires
read_goal-requires c = let k = few (goal.at.read_goal-requires c).In_ok-next in (k, omega (arith, k))

pub returns : goal.returns
returns c = goal-behind _ _ _ _ _ (known (goal.at.returns c).In_ok-next) _ refl _ _ c.read_goal.ensures

pub returns-in_err-next : goal.returns-in_err-next
unfolding partial_states_of
returns-in_err-next c = let p = err_from_is_err_and c.from_residual.result c.from_residual.ensures.1 in rw (p.1, p.2) (reads-unread _ _ _ _ _ _ _ c.in_err-next.ensures refl)

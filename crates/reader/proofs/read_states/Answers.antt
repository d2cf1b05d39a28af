-- `read_states` meets its contract: what is known after the sizes and after the start, and each state is read behind.
use Rattle.std.proofs.lemmas.Result.{err_from_is_err_and}
use Prim.Native.Nat.{◌≤◌}
use mathlib.Core.Path.{◌≡◌, refl, sym}
use native.Mathlib.Omega.{arith}
use lib.ListN.{get_or}
use Rattle.meaning.specs.Limits.{most_variables}
use Rattle.meaning.specs.File.{header}
use Rattle.theory.specs.Contents.{sizes_in}
use Rattle.reader.specs.Lists.{apart-behind}
use Rattle.reader.specs.Answer.{reads-unread}
use Rattle.reader.specs.After.{count_left}
use Rattle.reader.specs.Front.{start_of, start_words, states_of}
use Rattle.reader.specs.States.{AfterSizes, AfterStart, after-header, after-start, start-behind, goal-behind}
use Rattle.reader.proofs.read_states.Goals as goal
use Rattle.reader.proofs.read_states.Goals.{In_ok-next, In_ok-after}

-- What is known after the sizes.
sized : (c : In_ok-next) → let a = c.args in AfterSizes a.bytes.now a.at a.header.now c.read_limited.new.header c.in_ok-next.next
unfolding header
sized c = after-header _ _ _ _ _ c.in_ok-next.ensures

few : (c : In_ok-next) → get_or c.read_limited.new.header 0 0 ≤ most_variables
few c = rw (sized c).count (sized c).known.0.variables.1

-- What is known after the start.
started : (c : In_ok-after) → let a = c.args in AfterStart a.bytes.now a.at a.header.now c.items_at.new.words c.in_ok-after.after
unfolding sizes_in
started c = after-start _ _ _ _ _ (start-behind _ _ _ _ _ (sized (goal.at.In_ok-after c).In_ok-next) _ _ (rw c.start_at-start.ensures at c.in_ok-after.ensures))

-- The count is left as it was.
same : (c : In_ok-after) → get_or c.read_limited.new.header 0 0 ≡ get_or c.items_at.new.words 0 0
same c = sym (count_left _ _ c.start_at-start.result _ _ (omega (arith, c.start_at-start.ensures)) (omega arith) c.in_ok-after.ensures)

pub start_at-start-requires : goal.start_at-start-requires
start_at-start-requires c = few (goal.at.start_at-start-requires c).In_ok-next

pub goal_at-goal-requires : goal.goal_at-goal-requires
goal_at-goal-requires c = few (goal.at.goal_at-goal-requires c).In_ok-next

pub items_at-requires : goal.items_at-requires
items_at-requires c = let k = few (goal.at.items_at-requires c).In_ok-next in let e = c.start_at-start.ensures in
    (omega (arith, k), omega (arith, k, e), apart-behind _ _ _ (omega (arith, e)))

pub items_at-requires-2 : goal.items_at-requires-2
items_at-requires-2 c = let k = few (goal.at.items_at-requires-2 c).In_ok-next in let e = c.goal_at-goal.ensures in
    (omega (arith, k), omega (arith, k, e), apart-behind _ _ _ (omega (arith, e)))

pub returns : goal.returns
unfolding sizes_in
returns c = goal-behind _ _ _ _ _ (started (goal.at.returns c).In_ok-after) _ (same (goal.at.returns c).In_ok-after) _ _ (rw c.goal_at-goal.ensures at c.items_at-2.ensures)

pub returns-in_err-after : goal.returns-in_err-after
unfolding states_of sizes_in
returns-in_err-after c = let p = err_from_is_err_and c.from_residual-in_err-after.result c.from_residual-in_err-after.ensures.1 in rw (p.1, p.2) (
    reads-unread _ _ _ _ _ _ _ (start-behind _ _ _ _ _ (sized (goal.at.returns-in_err-after c).In_ok-next) _ _ (rw c.start_at-start.ensures at c.in_err-after.ensures)) refl)

pub returns-in_err-next : goal.returns-in_err-next
unfolding states_of start_of header
returns-in_err-next c = let p = err_from_is_err_and c.from_residual.result c.from_residual.ensures.1 in rw (p.1, p.2) (
    reads-unread _ start_words _ _ _ _ _ (reads-unread _ _ _ _ _ _ _ c.in_err-next.ensures refl) refl)

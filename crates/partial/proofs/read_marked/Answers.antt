-- `read_marked` meets its contract: what is known after the sizes; the marks go behind a gap, and the start into it.
use Rattle.std.proofs.lemmas.Result.{err_from_is_err_and}
use Prim.Native.Nat.{◌≤◌}
use mathlib.Core.Path.{refl}
use native.Mathlib.Omega.{arith}
use lib.ListN.{get_or}
use Rattle.meaning.specs.Limits.{most_variables}
use Rattle.meaning.specs.Workspace.{goal_at}
use Rattle.meaning.specs.Partial.{partial_header, marks_of}
use Rattle.reader.specs.Lists.{apart-behind}
use Rattle.reader.specs.Answer.{ReadsInto, written, reads-unread}
use Rattle.partial.specs.Front.{marked_of}
use Rattle.partial.specs.States.{AfterLimited, after-limited, marks-unread, start-behind}
use Rattle.partial.proofs.read_marked.Goals as goal
use Rattle.partial.proofs.read_marked.Goals.{After-items_below, In_ok-next}

-- What is known after the sizes.
sized : (c : In_ok-next) → let a = c.args in AfterLimited a.bytes.now a.at a.header.now c.read_limited.new.header c.in_ok-next.next
unfolding partial_header
sized c = after-limited _ _ _ _ _ c.in_ok-next.ensures

few : (c : In_ok-next) → get_or c.read_limited.new.header 0 0 ≤ most_variables
few c = rw (sized c).count (sized c).known.0.variables.1

-- The marks as they were read.
marks : (c : After-items_below) → let header = c.read_limited.new.header in
    ReadsInto (marks_of (get_or header 0 0) c.args.bytes.now c.in_ok-next.next) (written header (goal_at (get_or header 0 0))) c.items_below.result c.items_below.new.words
marks c = rw c.goal_at-goal.ensures at c.items_below.ensures

pub start_at-start-requires : goal.start_at-start-requires
start_at-start-requires c = few (goal.at.start_at-start-requires c).In_ok-next

pub goal_at-goal-requires : goal.goal_at-goal-requires
goal_at-goal-requires c = few (goal.at.goal_at-goal-requires c).In_ok-next

pub items_below-requires : goal.items_below-requires
items_below-requires c = let k = few (goal.at.items_below-requires c).In_ok-next in (k, omega (arith, k, c.goal_at-goal.ensures))

pub items_at-requires : goal.items_at-requires
items_at-requires c = let k = few (goal.at.items_at-requires c).In_ok-next in let e = c.start_at-start.ensures in
    (omega (arith, k), omega (arith, k, e), apart-behind _ _ _ (omega (arith, e)))

pub returns : goal.returns
returns c = start-behind _ _ _ _ _ (sized (goal.at.returns c).In_ok-next) _ refl _ _ (marks (goal.at.returns c).After-items_below) _ c.in_ok-after.was (omega (arith, few (goal.at.returns c).In_ok-next, c.requires)) _ _ (rw c.start_at-start.ensures at c.items_at.ensures)

pub returns-in_err-after : goal.returns-in_err-after
returns-in_err-after c = let p = err_from_is_err_and c.from_residual-in_err-after.result c.from_residual-in_err-after.ensures.1 in rw (p.1, p.2) (
    marks-unread _ _ _ _ _ (sized (goal.at.returns-in_err-after c).In_ok-next) _ refl _ _ (marks (goal.at.returns-in_err-after c).After-items_below) _ c.in_err-after.was)

pub returns-in_err-next : goal.returns-in_err-next
unfolding marked_of partial_header
returns-in_err-next c = let p = err_from_is_err_and c.from_residual.result c.from_residual.ensures.1 in rw (p.1, p.2) (reads-unread _ _ _ _ _ _ _ c.in_err-next.ensures refl)

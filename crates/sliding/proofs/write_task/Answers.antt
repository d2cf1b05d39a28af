-- `write_task` refuses a room that is shorter than the whole, and otherwise writes front and operators until nothing remains.
use Prim.Native.Nat.{ℕ, ◌+◌, ◌≤◌}
use mathlib.Core.Path.{◌≡◌, sym}
use mathlib.Core.List.{List}
use native.Mathlib.Omega.{arith}
use lib.ListN.{length}
use Rattle.meaning.specs.File.{plain, operator_bytes, counted, task_bytes}
use Rattle.words.specs.Members.{members_in}
use Rattle.writer.specs.Front.{front_bytes}
use Rattle.writer.specs.Remains.{delivered-small, parts-delivered}
use Rattle.sliding.specs.Parts.{operators_in, task_in}
use Rattle.sliding.specs.Whole.{task-split, task-length, task-few}
use Rattle.sliding.proofs.write_task.Goals as goal
use Rattle.sliding.proofs.write_task.Goals.{After-operators_width, Start}

-- The whole file, and its two parts.
abbrev file : (s : Start) → List ℕ
file s = task_bytes (task_in s.args.near.now s.args.start.now s.args.goal.now)

abbrev front : (s : Start) → List ℕ
front s = front_bytes plain s.args.sizes.now s.args.start.now s.args.goal.now (members_in s.args.pairs.now)

abbrev last : (s : Start) → List ℕ
last s = counted operator_bytes (operators_in s.args.near.now s.args.start.now)

whole : (c : After-operators_width) → length (file (goal.at.After-operators_width c).Start) ≡ c.front_width-front.result + c.operators_width.result
whole c =
    omega (arith, task-length c.requires, c.front_width-front.ensures, c.operators_width.ensures)

pub overflow_add-front : goal.overflow_add-front
overflow_add-front c =
    omega (arith, whole c, task-few c.requires)

pub returns-then-room-front : goal.returns-then-room-front
returns-then-room-front c =
    let room = c.args.room.now in
    sym (delivered-small (file (goal.at.returns-then-room-front c).Start) room (omega (arith, whole (goal.at.returns-then-room-front c).After-operators_width, c.if-room-front.true)))

pub returns : goal.returns
returns c =
    let room = c.args.room.now in
    let fit : length (file (goal.at.returns c).Start) ≤ length room = omega (arith, whole (goal.at.returns c).After-operators_width, c.if-room-front.false) in
    parts-delivered (file (goal.at.returns c).Start) (front (goal.at.returns c).Start) (last (goal.at.returns c).Start) room _ _ _ _ (task-split c.requires) fit c.write_front-next.ensures.after c.write_front-next.ensures.written c.write_operators.ensures.after c.write_operators.ensures.written

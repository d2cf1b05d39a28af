-- `write_task` refuses a room that is shorter than the whole, and otherwise writes front, count and operators.
use Prim.Native.Nat.{ℕ, ◌+◌, ◌*◌, ◌≤◌}
use mathlib.Core.Path.{◌≡◌, sym}
use mathlib.Core.List.{List}
use native.Mathlib.Omega.{arith}
use lib.ListN.{length}
use Rattle.meaning.specs.File.{kind_if}
use Rattle.writer.specs.Widths.{four_lists}
use Rattle.writer.specs.Remains.{delivered-small}
use Rattle.writer.specs.TaskFile.{file_bytes, file-length, file-few, file-delivered}
use Rattle.writer.proofs.write_task.Goals as goal
use Rattle.writer.proofs.write_task.Goals.{After-width, Else-room-front, Start}

abbrev file : (s : Start) → List ℕ
file s = let a = s.args in file_bytes (kind_if a.gapped) a.count a.own.now a.sizes.now a.start.now a.goal.now a.pairs.now

whole : (c : After-width) → length (file (goal.at.After-width c).Start) ≡ c.front_width-front.result + (c.width.result + length c.args.own.now)
whole c = let a = c.args in
    omega (arith, file-length (kind_if a.gapped) a.count a.own.now a.sizes.now a.start.now a.goal.now a.pairs.now, c.front_width-front.ensures, c.width.ensures)

few : (c : After-width) → c.front_width-front.result + (c.width.result + length c.args.own.now) ≤ 2 * four_lists + length c.args.own.now
few c = let a = c.args in omega (arith, whole c, file-few (kind_if a.gapped) a.count a.own.now a.sizes.now a.start.now a.goal.now a.pairs.now c.requires.0)

fits : (c : Else-room-front) → length (file (goal.at.Else-room-front c).Start) ≤ length c.args.room.now
fits c = omega (arith, whole (goal.at.Else-room-front c).After-width, c.if-room-front.false)

pub overflow_add-operators : goal.overflow_add-operators
overflow_add-operators c = omega (arith, few c, c.well_formed)

pub overflow_add-front : goal.overflow_add-front
overflow_add-front c = omega (arith, few c, c.well_formed)

pub returns-then-room-front : goal.returns-then-room-front
returns-then-room-front c = let room = c.args.room.now in
    sym (delivered-small (file (goal.at.returns-then-room-front c).Start) room (omega (arith, whole (goal.at.returns-then-room-front c).After-width, c.if-room-front.true)))

pub returns : goal.returns
returns c =
    let a = c.args in
    file-delivered (kind_if a.gapped) a.count a.own.now a.sizes.now a.start.now a.goal.now a.pairs.now a.room.now (fits (goal.at.returns c).Else-room-front)
    _ _ c.write_front-second.ensures.after c.write_front-second.ensures.written _ _ c.write_number-third.ensures.after c.write_number-third.ensures.written
    _ _ c.write_bytes.ensures.after c.write_bytes.ensures.written

-- `write_partial` refuses a room that is shorter than the whole, and otherwise writes five parts one after the other.
use Prim.Native.Nat.{ℕ, ◌+◌, ◌*◌, ◌≤◌}
use mathlib.Core.Path.{◌≡◌, sym}
use mathlib.Core.List.{List}
use native.Mathlib.Omega.{arith}
use lib.ListN.{length}
use Rattle.writer.specs.Widths.{four_lists, list-few, numbers-few}
use Rattle.writer.specs.Remains.{delivered-small}
use Rattle.silencing.specs.Parts.{rest_bytes, rest-few, parts_bytes, parts-length, parts-few, partial-delivered}
use Rattle.silencing.proofs.write_partial.Goals as goal
use Rattle.silencing.proofs.write_partial.Goals.{After-rest_width, Start}

abbrev rest : (s : Start) → List ℕ
rest s = rest_bytes s.args.pairs.now s.args.count s.args.own.now

abbrev file : (s : Start) → List ℕ
file s = parts_bytes s.args.sizes.now s.args.marks.now s.args.start.now s.args.named.now (rest s)

whole : (c : After-rest_width) → length (file (goal.at.After-rest_width c).Start)
    ≡ c.list_width.result + length c.args.marks.now + c.numbers_width.result + c.numbers_width-2.result + c.rest_width.result
whole c = let s = c.args in
    omega (
      arith,
      parts-length s.sizes.now s.marks.now s.start.now s.named.now (rest (goal.at.After-rest_width c).Start),
      c.list_width.ensures,
      c.numbers_width.ensures,
      c.numbers_width-2.ensures,
      c.rest_width.ensures,
    )

few : (s : Start) → length (file s) ≤ 2 * four_lists + length s.args.own.now
few s = let a = s.args in omega (
  arith,
  parts-few a.sizes.now a.marks.now a.start.now a.named.now (rest s) s.requires.0,
  rest-few a.pairs.now a.count a.own.now s.requires.1,
)

pub overflow_add-front : goal.overflow_add-front
overflow_add-front c = omega (arith, list-few c.args.sizes.now, c.requires.0.0.0, c.requires.0.1, c.list_width.ensures)

pub overflow_add-front-2 : goal.overflow_add-front-2
overflow_add-front-2 c =
    omega (arith, list-few c.args.sizes.now, numbers-few c.args.start.now, c.requires.0.0.0, c.requires.0.1, c.requires.0.2.0, c.list_width.ensures, c.numbers_width.ensures)

pub overflow_add-front-3 : goal.overflow_add-front-3
overflow_add-front-3 c =
    let (sizes, marks, start, named) = c.requires.0 in
    omega (
      arith,
      list-few c.args.sizes.now,
      numbers-few c.args.start.now,
      numbers-few c.args.named.now,
      sizes.0,
      marks,
      start.0,
      named.0,
      c.list_width.ensures,
      c.numbers_width.ensures,
      c.numbers_width-2.ensures,
    )

pub overflow_add-front-4 : goal.overflow_add-front-4
overflow_add-front-4 c = omega (arith, whole c, few (goal.at.overflow_add-front-4 c).Start, c.well_formed)

pub returns-then-room-front : goal.returns-then-room-front
returns-then-room-front c = sym (delivered-small (file (goal.at.returns-then-room-front c).Start) c.args.room.now (omega (arith, whole (goal.at.returns-then-room-front c).After-rest_width, c.if-room-front.true)))

pub returns : goal.returns
returns c =
    partial-delivered _ _ _ _ (rest (goal.at.returns c).Start) c.args.room.now _ _ _ _ _ _ _ _ _ _ (omega (arith, whole (goal.at.returns c).After-rest_width, c.if-room-front.false)) (c.write_list-second.ensures.after, c.write_list-second.ensures.written) (c.write_bytes-third.ensures.after, c.write_bytes-third.ensures.written)
    (c.write_numbers-fourth.ensures.after, c.write_numbers-fourth.ensures.written) (c.write_numbers-fifth.ensures.after, c.write_numbers-fifth.ensures.written) (c.write_rest.ensures.after, c.write_rest.ensures.written)

-- `write_built` refuses a room that is shorter than the whole, and otherwise writes front and operators.
use Prim.Native.Nat.{ℕ, ◌+◌, ◌*◌, ◌≤◌}
use mathlib.Core.Path.{◌≡◌, sym, ap, ◌∙◌}
use mathlib.Core.List.{List}
use native.Mathlib.Omega.{arith}
use lib.ListN.{length}
use Rattle.writer.specs.Widths.{four_lists}
use Rattle.writer.specs.Remains.{delivered-small}
use Rattle.completing.specs.Parts.{one_width, built_bytes, operators-length, file-length, file-few, file-delivered}
use Rattle.completing.proofs.write_built.Goals as goal
use Rattle.completing.proofs.write_built.Goals.{After-width, Start}

abbrev file : (s : Start) → List ℕ
file s = let a = s.args in built_bytes a.count a.kept a.own.now a.sizes.now a.start.now a.goal.now a.pairs.now a.lean

each : (c : After-width) → c.operator_width-each.result * c.args.kept ≡ 4 * c.args.kept
each c = ap (λ n. n * c.args.kept) (c.operator_width-each.ensures ∙ one_width)

whole : (c : After-width) → length (file (goal.at.After-width c).Start)
    ≡ c.front_width-front.result + (c.width.result + length c.args.own.now + c.operator_width-each.result * c.args.kept)
whole c = let a = c.args in
    omega (arith, file-length a.count a.kept a.own.now a.sizes.now a.start.now a.goal.now a.pairs.now a.lean c.requires, c.front_width-front.ensures, c.width.ensures, each c)

few : (s : Start) → length (file s) ≤ 2 * four_lists + length s.args.own.now
few s = let a = s.args in file-few a.count a.kept a.own.now a.sizes.now a.start.now a.goal.now a.pairs.now a.lean s.requires

pub overflow_add-operators : goal.overflow_add-operators
overflow_add-operators c = omega (arith, whole c, few (goal.at.overflow_add-operators c).Start, c.well_formed)

pub overflow_mul-operators : goal.overflow_mul-operators
overflow_mul-operators c = omega (arith, each c, c.requires.countable)

pub overflow_add-operators-2 : goal.overflow_add-operators-2
overflow_add-operators-2 c = omega (arith, whole c, few (goal.at.overflow_add-operators-2 c).Start, c.well_formed)

pub overflow_add-front : goal.overflow_add-front
overflow_add-front c = omega (arith, whole c, few (goal.at.overflow_add-front c).Start, c.well_formed)

pub returns-then-room-front : goal.returns-then-room-front
returns-then-room-front c = sym (delivered-small (file (goal.at.returns-then-room-front c).Start) c.args.room.now (omega (arith, whole (goal.at.returns-then-room-front c).After-width, c.if-room-front.true)))

pub write_operators-requires : goal.write_operators-requires
write_operators-requires c =
    let a = c.args in (
      c.requires.countable,
      c.requires.ready,
      c.requires.is-goal,
      omega (
        arith,
        operators-length (a.count + a.kept) a.own.now a.sizes.now a.pairs.now a.goal.now a.lean,
        c.requires.width,
        each (goal.at.write_operators-requires c).After-width,
        c.width.ensures,
        c.front_width-front.ensures,
        c.write_front-next.ensures.after,
        c.write_front-next.auto,
        c.if-room-front.false,
      ),
    )

pub returns : goal.returns
returns c =
    let a = c.args in
    file-delivered a.count a.kept a.own.now a.sizes.now a.start.now a.goal.now a.pairs.now a.lean c.requires a.room.now _ _ _ _
    (omega (arith, whole (goal.at.returns c).After-width, c.if-room-front.false)) c.write_front-next.ensures.after c.write_front-next.ensures.written c.write_operators.ensures.after c.write_operators.ensures.written

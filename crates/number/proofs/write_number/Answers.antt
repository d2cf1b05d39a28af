-- `write_number` stores the bytes of a number: at each turn the bytes of what is left, stored from here on, give the same room as all of them from the start.
use Prim.Native.Nat.{◌+◌, ◌<◌}
use mathlib.Core.Path.{◌≡◌, refl, sym, ap, ◌∙◌}
use native.Mathlib.Omega.{arith}
use lib.ListN.{length, length-set}
use lib.Seq.{sets}
use Rattle.meaning.specs.Number.{number_bytes}
use Rattle.number.specs.Laws.{spelled-number, spelled-filled, spelled-one, spelled-more, sets_more, sets-all}
use Rattle.number.proofs.write_number.Goals as goal
use Rattle.number.proofs.write_number.Goals.{At-loop-left}

-- At least one byte is left, and it has its place.
within : (c : At-loop-left) → c.loop-left.next < length c.loop-left.room
within c = omega (arith, c.requires.1, c.loop-left.invariant.2, c.loop-left.invariant.3, spelled-filled _ _ c.loop-left.invariant.1)

pub loop-left-init : goal.loop-left-init
loop-left-init c = (_, spelled-number _ c.requires.0, refl, refl, refl)

pub bounds-room-next : goal.bounds-room-next
bounds-room-next c = within (goal.at.bounds-room-next c).At-loop-left

pub overflow_add-next : goal.overflow_add-next
overflow_add-next c = omega (arith, within (goal.at.overflow_add-next c).At-loop-left)

pub loop-left-preserved : goal.loop-left-preserved
loop-left-preserved c =
    let inv = c.loop-left.invariant in
    let room = c.loop-left.room in
    let next = c.loop-left.next in
    let further = spelled-more _ _ inv.1 c.loop-left-test.true in (
      further.rest,
      further.spelled,
      length-set room next _ ∙ inv.2,
      omega (arith, inv.3, ap length further.split),
      inv.4 ∙ ap (sets room next) further.split ∙ sets_more room next _ further.rest,
    )

pub bounds-room-next-2 : goal.bounds-room-next-2
bounds-room-next-2 c = within (goal.at.bounds-room-next-2 c).At-loop-left

pub overflow_add-result : goal.overflow_add-result
overflow_add-result c = omega (arith, within (goal.at.overflow_add-result c).At-loop-left)

pub shape_of-room : goal.shape_of-room
shape_of-room c = length-set c.loop-left.room c.loop-left.next c.loop-left.left ∙ c.loop-left.invariant.2

pub returns : goal.returns
returns c =
    let inv = c.loop-left.invariant in
    let bytes = number_bytes c.args.n in
    let room = c.args.room.now in
    let last = spelled-one _ _ inv.1 c.loop-left-test.false in
    let after : c.loop-left.next + 1 ≡ c.args.at + length bytes = omega (arith, inv.3, ap length last) in record {
      after = after;
      written = sym (inv.4 ∙ ap (sets c.loop-left.room c.loop-left.next) last)
          ∙ sets-all room c.args.at (c.loop-left.next + 1) bytes after (omega (arith, after, c.requires.1));
    }

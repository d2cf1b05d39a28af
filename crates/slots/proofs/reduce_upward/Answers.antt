-- `slots::reduce_upward`: between two turns the row is a `Turn`.
use Prim.Native.Nat.{ℕ, ◌+◌, ◌*◌}
use mathlib.Core.Path.{◌≡◌, refl, sym, ◌∙◌, subst}
use mathlib.Core.Bool.{true, ◌&&◌}
use native.Mathlib.Omega.{arith}
use lib.ListN.{length}
use Rattle.meaning.specs.Limits.{word_bits}
use Rattle.meaning.specs.Workspace.{has, words_for}
use Rattle.words.specs.Next.{Next}
use Rattle.slots.specs.Area.{slots_in, slot_has, slot-room, length-slot}
use Rattle.slots.specs.Waiting.{indexes-cover}
use Rattle.slots.specs.Reducing.{turn-first, turn-next, turn-done}
use Rattle.slots.proofs.reduce_upward.Goals as goal
use Rattle.slots.proofs.reduce_upward.Goals.{Start}

-- The set has the index of every slot that has a member.
covers : (s : Start) → let a = s.args in (i f : ℕ) → slots_in a.n a.area.now i f ≡ true → has a.full.now i ≡ true
covers s = indexes-cover _ _ _ s.requires.0 s.requires.1

pub next_shared-p-requires : goal.next_shared-p-requires
next_shared-p-requires c = (c.requires.3 ∙ sym c.requires.2, omega arith, omega (arith, c.requires.0.few, c.requires.3))

pub loop-p-init : goal.loop-p-init
loop-p-init c = turn-first _ _ _ (covers (goal.at.loop-p-init c).Start) _ _ _ refl c.next_shared-p.ensures

pub add_slot-requires : goal.add_slot-requires
add_slot-requires c = (c.requires.0, c.loop-p-test.true, c.loop-p.invariant.long ∙ c.requires.3)

pub overflow_add-p : goal.overflow_add-p
overflow_add-p c = omega (arith, c.loop-p-test.true)

pub next_shared-p-requires-in-loop-p : goal.next_shared-p-requires-in-loop-p
next_shared-p-requires-in-loop-p c = let k = c.add_slot.auto in let t = c.loop-p.invariant.long in (
  omega (arith, c.requires.2, c.requires.3, k, t),
  omega (arith, c.requires.3, k, t, c.loop-p-test.true),
  omega (arith, c.requires.0.few, c.requires.3, k, t),
)

pub loop-p-smaller : goal.loop-p-smaller
loop-p-smaller c = omega (arith, c.next_shared-p-in-loop-p.ensures.above)

pub loop-p-preserved : goal.loop-p-preserved
loop-p-preserved c = let below = c.loop-p-test.true in let n = c.args.n in let area = c.args.area.now in
    let row = c.add_slot.new.row in
    let e : length row ≡ length c.args.row.now = omega (arith, c.add_slot.auto, c.loop-p.invariant.long) in
    turn-next _ _ _ (covers (goal.at.loop-p-preserved c).Start) _ _ c.loop-p.row row _ c.loop-p.p c.next_shared-p-in-loop-p.result below (omega (arith, c.requires.3))
    (subst (λ k. Next (λ f. has row f && has c.args.full.now f) (word_bits * k) (c.loop-p.p + 1) c.next_shared-p-in-loop-p.result) e c.next_shared-p-in-loop-p.ensures)
    (length-slot (words_for n) c.loop-p.p area (slot-room n _ c.loop-p.p area refl c.requires.0.long below) ∙ sym c.requires.3) (λ f. sym (slot_has n c.loop-p.p area f below)) c.add_slot.ensures c.loop-p.invariant

pub shape_of-row : goal.shape_of-row
shape_of-row c = c.loop-p.invariant.long

pub returns : goal.returns
returns c = turn-done _ _ _ (covers (goal.at.returns c).Start) _ _ _ _ c.loop-p-test.false c.loop-p.invariant

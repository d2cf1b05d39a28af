-- `slots::reduce`: between two turns the row is a `Turn`; words that hold what is left are its words.
use Prim.Native.Nat.{◌+◌, ◌*◌}
use mathlib.Core.Path.{◌≡◌, refl, sym, ◌∙◌, subst}
use native.Mathlib.Omega.{arith}
use lib.ListN.{length}
use Rattle.meaning.specs.Limits.{word_bits}
use Rattle.meaning.specs.Workspace.{has, words_for}
use Rattle.words.specs.Next.{Next}
use Rattle.slots.specs.Area.{slot_has, slot-room, length-slot, led-area, LedArea}
use Rattle.slots.specs.Reducing.{turn-first, turn-next, turn-done, next-every, red-past, words_of}
use Rattle.slots.proofs.reduce.Goals as goal
use Rattle.slots.proofs.reduce.Goals.{Start}

-- Every slot is empty or has its index as least member.
led : (s : Start) → LedArea s.args.n s.args.area.now
led s = led-area s.args.n s.args.area.now s.requires.3 s.requires.1 s.requires.0.low s.requires.0.full

pub next_member-p-requires : goal.next_member-p-requires
next_member-p-requires c = (omega arith, omega (arith, c.requires.2, c.requires.3))

pub loop-p-init : goal.loop-p-init
loop-p-init c = (turn-first _ _ _ (λ i f e. refl) _ _ _ refl (next-every _ _ _ _ c.next_member-p.ensures), λ i h. (c.slice_known-1.given i).fits)

pub add_slot-requires : goal.add_slot-requires
add_slot-requires c = (led (goal.at.add_slot-requires c).Start, c.loop-p-test.true, c.loop-p.invariant.0.long ∙ c.requires.2)

pub overflow_add-p : goal.overflow_add-p
overflow_add-p c = omega (arith, c.loop-p-test.true)

pub next_member-p-requires-in-loop-p : goal.next_member-p-requires-in-loop-p
next_member-p-requires-in-loop-p c = let k = c.add_slot.auto in let t = c.loop-p.invariant.0.long in (omega (arith, c.requires.2, k, t, c.loop-p-test.true), omega (arith, c.requires.3, c.requires.2, k, t))

pub loop-p-smaller : goal.loop-p-smaller
loop-p-smaller c = omega (arith, c.next_member-p-in-loop-p.ensures.above)

pub loop-p-preserved : goal.loop-p-preserved
loop-p-preserved c = let l = c.loop-p in let below = c.loop-p-test.true in let n = c.args.n in let area = c.args.area.now in
    let row = c.add_slot.new.row in
    let e : length row ≡ length c.args.row.now = omega (arith, c.add_slot.auto, l.invariant.0.long) in (
      turn-next _ _ _ (λ i f e. refl) _ _ l.row row _ l.p c.next_member-p-in-loop-p.result below (omega (arith, c.requires.2))
          (next-every _ _ _ _ (subst (λ k. Next (has row) (word_bits * k) (l.p + 1) c.next_member-p-in-loop-p.result) e c.next_member-p-in-loop-p.ensures))
          (length-slot (words_for n) l.p area (slot-room n _ l.p area refl c.requires.1 below) ∙ sym c.requires.2) (λ f. sym (slot_has n l.p area f below)) c.add_slot.ensures l.invariant.0,
      λ i h. (c.slice_known-in-loop-p-1.given i).fits,
    )

pub shape_of-row : goal.shape_of-row
shape_of-row c = c.loop-p.invariant.0.long

pub returns : goal.returns
returns c = let l = c.loop-p in
    words_of _ _ _ (l.invariant.0.long ∙ c.requires.2) l.invariant.1 (red-past c.requires.0 _ c.requires.4) (turn-done _ _ _ (λ i f e. refl) _ _ _ _ c.loop-p-test.false l.invariant.0)

-- Two families of slots, the settled and the pending, and the one family that settling makes of them.
use Rattle.std.specs.Prelude.{ℕ, zero, suc, ◌<◌, ◌≡◌, refl, ◌≢◌, ◌↔◌, true, false}
use Rattle.std.proofs.Math.Path.{sym}
use Rattle.std.proofs.Common.{◌∙◌, arith}
use Rattle.std.proofs.Math.Bool.{and-false}
use Rattle.meaning.specs.Sets.{◌⊕◌, Set, Slots}
use Rattle.meaning.specs.Slot.{Reduced, Stored}
use Rattle.theory.specs.Truth.{on, off, test, less, same, more, order, xor-false}
use Rattle.theory.specs.Parity.{dot, dot-none, dot-cong, dot-xor}
use Rattle.theory.specs.Slots.{stored-dot, dot-stored, slot-none}
use Rattle.theory.specs.Reduce.{red, red-dot, red-avoid, red-within}
use Rattle.theory.specs.Insert.{put, own, other, placed, Fresh, put-reduced}

-- Settled slots and pending ones: each family is reduced, and no pending slot has a settled slot's index.
pub record Two (n : ℕ) (A B : Slots) : Type 0 where
  pub settled : Reduced n A
  pub pending : Reduced n B
  pub apart : (i j : ℕ) → A j j ≡ true → B i j ≡ false

-- Each settled slot reduced by the pending ones, and the pending ones.
unfoldable pub settle : ℕ → Slots → Slots → Slots
settle n A B i f = red B n (A i) f ⊕ B i f

-- ---- what reducing leaves as it is

-- A number that no slot has.
pub red-keeps : (S : Slots) (k : ℕ) (d : Set) (f : ℕ) → ((i : ℕ) → S i f ≡ false) → red S k d f ≡ d f
unfolding red
red-keeps S zero d f h = refl
red-keeps S (suc k) d f h = rw (h k, and-false (red S k d k)) (xor-false (red S k d f) ∙ red-keeps S k d f h)

-- The numbers below the least member.
red-low : {n : ℕ} {S : Slots} → Reduced n S → (k : ℕ) (d : Set) (i : ℕ) → ((f : ℕ) → f < i → d f ≡ false) → (f : ℕ) → f < i → red S k d f ≡ false
unfolding red
red-low R zero d i h f l = h f l
red-low {n} {S} R (suc k) d i h f l = elim (order k i) [
  | less j ↦ rw (red-low R k d i h f l, red-low R k d i h k j)
  | same q ↦ rw (red-low R k d i h f l, R.low k f (omega arith)) (and-false (red S k d k))
  | more j ↦ rw (red-low R k d i h f l, R.low k f (omega arith)) (and-false (red S k d k))
]

-- The empty set.
pub red-none : (S : Slots) (k : ℕ) (d : Set) → ((f : ℕ) → d f ≡ false) → (f : ℕ) → red S k d f ≡ false
unfolding red
red-none S zero d h f = h f
red-none S (suc k) d h f = rw (red-none S k d h f, red-none S k d h k)

-- ---- settling

module _ {n : ℕ} {A B : Slots} (T : Two n A B) where
  -- Where the settled slot is full, the pending one is empty.
  apart_none : (i : ℕ) → A i i ≡ true → (f : ℕ) → B i f ≡ false
  apart_none i e = slot-none T.pending i (T.apart i i e)

  settle-full : (i : ℕ) → A i i ≡ true → (f : ℕ) → settle n A B i f ≡ red B n (A i) f
  unfolding settle
  settle-full i e f = rw (apart_none i e f) (xor-false (red B n (A i) f))

  pub settle-free : (i : ℕ) → A i i ≡ false → (f : ℕ) → settle n A B i f ≡ B i f
  unfolding settle
  settle-free i e f = rw (red-none B n (A i) (slot-none T.settled i e) f)

  -- At a settled index every slot is as it was.
  settle-index : (i j : ℕ) → A j j ≡ true → settle n A B i j ≡ A i j
  unfolding settle
  settle-index i j e = rw (T.apart i j e, red-keeps B n (A i) j (λ k. T.apart k j e)) (xor-false (A i j))

  settle-within : (i f : ℕ) → settle n A B i f ≡ true → (i < n) × (f < n)
  settle-within i f e = elim (test (A i i)) [
    | on t ↦ ((T.settled.within i i t).0, red-within T.pending n (A i) (λ g q. (T.settled.within i g q).1) f (sym (settle-full i t f) ∙ e))
    | off t ↦ T.pending.within i f (sym (settle-free i t f) ∙ e)
  ]

  settle-low : (i f : ℕ) → f < i → settle n A B i f ≡ false
  unfolding settle
  settle-low i f l = rw (red-low T.pending n (A i) i (T.settled.low i) f l, T.pending.low i f l)

  settle-own : (i f : ℕ) → settle n A B i f ≡ true → settle n A B i i ≡ true
  settle-own i f e = elim (test (A i i)) [
    | on t ↦ settle-index i i t ∙ t
    | off t ↦ settle-free i t i ∙ T.pending.full i f (sym (settle-free i t f) ∙ e)
  ]

  settle-clear : (i j : ℕ) → settle n A B j j ≡ true → j ≢ i → settle n A B i j ≡ false
  unfolding settle
  settle-clear i j e d = elim (test (A j j)) [
    | on t ↦ settle-index i j t ∙ T.settled.clear i j t d
    | off t ↦ let q = sym (settle-free j t j) ∙ e in rw (red-avoid T.pending (A i) j q, T.pending.clear i j q d)
  ]

  pub settle-reduced : Reduced n (settle n A B)
  settle-reduced = record { within = settle-within; low = settle-low; full = settle-own; clear = settle-clear }

  -- The weights that meet all slots evenly stay.
  pub settle-stored : (w : Set) → Stored n (settle n A B) w ↔ (Stored n A w × Stored n B w)
  unfolding settle
  settle-stored w = (
    λ k. let b = dot-stored n B w (pend k) in (dot-stored n A w (λ i l. sym (even b i l) ∙ stored-dot n (settle n A B) w k i l), b),
    λ k. dot-stored n (settle n A B) w (λ i l. even k.1 i l ∙ stored-dot n A w k.0 i l),
  )
    where
      even : Stored n B w → (i : ℕ) → i < n → dot n w (settle n A B i) ≡ dot n w (A i)
      even b i l = dot-xor n w (red B n (A i)) (B i) ∙ rw (stored-dot n B w b i l, red-dot n B w b n (A i) (omega arith)) (xor-false (dot n w (A i)))

      pend : Stored n (settle n A B) w → (i : ℕ) → i < n → dot n w (B i) ≡ false
      pend k i l = elim (test (A i i)) [
        | on t ↦ dot-none n w (B i) (λ f j. apart_none i t f)
        | off t ↦ dot-cong n w (B i) _ (λ f j. sym (settle-free i t f)) ∙ stored-dot n (settle n A B) w k i l
      ]

  -- A row that has no index of either family becomes a pending slot.
  pub put_two : {p : ℕ} {r : Set} → Fresh n B p r → ((j : ℕ) → A j j ≡ true → r j ≡ false) → Two n A (put B p r)
  put_two {p} {r} fresh away = record {
    settled = T.settled;
    pending = put-reduced T.pending fresh;
    apart = λ i j e. elim (placed B p r i) [ own q h ↦ h j ∙ away j e | other q h ↦ rw (h j, T.apart i j e, away j e) (and-false (B i p)) ];
  }

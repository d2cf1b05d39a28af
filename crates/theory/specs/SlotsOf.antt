-- The slots of a condition are one family only, and they stand for the condition: stored weights are the weights that meet it.
use Rattle.std.specs.Prelude.{ℕ, ◌<◌, ◌≡◌, ◌≢◌, ◌↔◌, true, false, eqb, ltb}
use Rattle.std.proofs.Common.{sym, ◌∙◌, arith, eqb-true, ltb-true, ltb-false}
use Rattle.std.proofs.Math.Path.{fun_ext}
use Rattle.std.proofs.Math.Logic.Iff
use Rattle.std.proofs.lemmas.Bool.{eqb-false}
use Rattle.meaning.specs.Sets.{◌⊕◌, Set, Slots}
use Rattle.theory.specs.Truth.{on, off, test, clash, xor-false-same}
use Rattle.theory.specs.Parity.{dot, dot-none, dot-even, even-dot}
use Rattle.meaning.specs.Slot.{LeastMember, Reduced, Forced, SlotsOf, Stored}
use Rattle.theory.specs.Slots.{nothing, found, least, forced-xor, slot-none, slot-past, empty-none}
use Rattle.theory.specs.Reduce.{red, red-dot, red-avoid}

-- A condition that holds of every weight list which meets all that the condition forces.
abbrev pub Closed : ℕ → (Set → Type 0) → Type 0
Closed n Meets = (w : Set) → ((g : Set) → Forced n Meets g → dot n w g ≡ false) → Meets w

-- Conditions that hold of the same weights have the same slots.
pub slots-along : (n : ℕ) (Meets Meets' : Set → Type 0) (S : Slots) → ((w : Set) → Meets w ↔ Meets' w) → SlotsOf n Meets S → SlotsOf n Meets' S
slots-along n Meets Meets' S h D = record {
  shape = D.shape;
  forced = λ i e w m. D.forced i e w ((h w).1 m);
  needed = λ i g l k. D.needed i g l (λ w m. k w ((h w).0 m));
}

-- A reduced family is the slots of every condition that holds of its stored weights and no others.
pub slots-of-stored : {n : ℕ} {S : Slots} (Meets : Set → Type 0) → Reduced n S → ((w : Set) → Stored n S w ↔ Meets w) → SlotsOf n Meets S
slots-of-stored {n} {S} Meets R h = slots-along n (Stored n S) Meets S h (record {
  shape = R;
  forced = λ i e w k. k i (R.within i i e).0;
  needed = λ i g l k first. elim (test (S i i)) [ on e ↦ e | off e ↦ absurd (empty-none R i g l e k first) ];
})

module _ {n : ℕ} {Meets : Set → Type 0} {S : Slots} (D : SlotsOf n Meets S) where
  -- Every slot is forced, an empty one too.
  pub slot-forced : (i : ℕ) → Forced n Meets (S i)
  slot-forced i = elim (test (S i i)) [ on e ↦ D.forced i e | off e ↦ λ w m. dot-even n w (S i) (dot-none n w (S i) (λ f l. slot-none D.shape i e f)) ]

  pub slot-least : (i : ℕ) → S i i ≡ true → LeastMember i (S i)
  slot-least i e = record { member = e; first = D.shape.low i }

  -- A forced set without a full slot's index is empty: its least member would be one.
  pub forced-none : (g : Set) → Forced n Meets g → ((p : ℕ) → S p p ≡ true → g p ≡ false) → (f : ℕ) → f < n → g f ≡ false
  forced-none g h k = elim (least n g) [ nothing z ↦ z | found m l first ↦ absurd (clash first.member (k m (D.needed m g l h first))) ]

  -- A forced set that has a slot's index where the slot is full, and no other full slot's index, is that slot.
  pub slot-unique : (i : ℕ) (g : Set) → Forced n Meets g → (S i i ≡ true → g i ≡ true) → ((p : ℕ) → S p p ≡ true → p ≢ i → g p ≡ false)
      → (f : ℕ) → f < n → g f ≡ S i f
  slot-unique i g h own others f l = xor-false-same (g f) (S i f) (forced-none _ (forced-xor n Meets g (S i) h (slot-forced i)) cancel f l)
    where
      cancel : (p : ℕ) → S p p ≡ true → g p ⊕ S i p ≡ false
      cancel p e = elim (test (eqb p i)) [
        | on t ↦ let q : p ≡ i = eqb-true p i t in let e' : S i i ≡ true = rw q at e in rw (q, own e', e')
        | off t ↦ rw (others p e (eqb-false p i t), D.shape.clear i p e (eqb-false p i t))
      ]

  -- Stored weights meet every forced set evenly.
  pub spans : (w : Set) → Stored n S w → (g : Set) → Forced n Meets g → dot n w g ≡ false
  spans w k g h = sym (red-dot n S w k n g (omega arith)) ∙ dot-none n w (red S n g) (forced-none (red S n g) left (red-avoid D.shape g))
    where
      left : Forced n Meets (red S n g)
      left u m = dot-even n u _ (red-dot n S u (λ i l. slot-forced i u m) n g (omega arith) ∙ even-dot n u g (h u m))

  pub stored-of-slots : Closed n Meets → (w : Set) → Stored n S w ↔ Meets w
  stored-of-slots c w = (λ k. c w (spans w k), λ m i l. slot-forced i w m)

  full-also : {S' : Slots} → SlotsOf n Meets S' → (i : ℕ) → S i i ≡ true → S' i i ≡ true
  full-also D' i e = D'.needed i (S i) (D.shape.within i i e).0 (D.forced i e) (slot-least i e)

slots_same : {n : ℕ} {Meets : Set → Type 0} {S S' : Slots} → SlotsOf n Meets S → SlotsOf n Meets S' → S ≡ S'
slots_same {n} {Meets} {S} {S'} D D' = fun_ext (λ i. fun_ext (λ f. elim (test (ltb f n)) [
  | on t ↦ sym (slot-unique D i (S' i) (slot-forced D' i) (full-also D D' i) (λ p e d. D'.shape.clear i p (full-also D D' p e) d) f (ltb-true f n t))
  | off t ↦ slot-past D.shape i f (ltb-false f n t) ∙ sym (slot-past D'.shape i f (ltb-false f n t))
]))

-- There is one family of slots for a condition.
pub slots-only : (n : ℕ) (Meets Meets' : Set → Type 0) (S S' : Slots) → ((w : Set) → Meets w ↔ Meets' w) → SlotsOf n Meets S → SlotsOf n Meets' S' → S ≡ S'
slots-only n Meets Meets' S S' h D D' = slots_same (slots-along n Meets Meets' S h D) D'

-- Two reduced families with the same stored weights are one.
pub same-slots : {n : ℕ} {S S' : Slots} → Reduced n S → Reduced n S' → ((w : Set) → Stored n S w ↔ Stored n S' w) → S ≡ S'
same-slots {n} {S} {S'} R R' h = slots_same (slots-of-stored (Stored n S') R h) (slots-of-stored (Stored n S') R' (λ w. Iff.rfl))

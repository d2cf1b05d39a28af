-- Inserting a row into a family of slots: it stays reduced, and the stored weights become those that also meet the row evenly.
use Rattle.std.specs.Prelude.{ℕ, ◌<◌, ◌≡◌, refl, ◌≢◌, ◌↔◌, true, false, ◌&&◌, cond, eqb, ltb}
use Rattle.std.proofs.Common.{sym, ◌∙◌, arith, eqb-true, lt-ltb, le-ltb}
use Rattle.std.proofs.Math.Logic.Iff
use Rattle.std.proofs.Math.Bool.{and-false, and-true}
use Rattle.std.proofs.lemmas.Bool.{eqb-false}
use Rattle.meaning.specs.Sets.{◌⊕◌, Set, Slots}
use Rattle.theory.specs.Truth.{on, off, test, clash, xor_self, xor-false}
use Rattle.theory.specs.Parity.{dot, dot-none, dot-cong, dot-xor, dot-and}
use Rattle.meaning.specs.Slot.{LeastMember, Reduced, Stored}
use Rattle.theory.specs.Slots.{nothing, found, least, lead, lead-none, lead-least, stored-dot, dot-stored, slot-none, slot-low}
use Rattle.theory.specs.Reduce.{red, red-dot, red-avoid, red-within}
use Rattle.theory.specs.Cut.{cut, cut-within, cut-dot}

-- ---- one row that is reduced already

-- Row r becomes slot p, and r is added to every slot that has p.
unfoldable pub put : Slots → ℕ → Set → Slots
put S p r i f = cond (eqb i p) (r f) (S i f ⊕ (S i p && r f))

-- A slot of the new family: the row itself, or the old slot with the row added if it had p.
pub data Placed (S : Slots) (p : ℕ) (r : Set) (i : ℕ) : Type 0 where
  own : i ≡ p → ((f : ℕ) → put S p r i f ≡ r f) → Placed S p r i
  other : i ≢ p → ((f : ℕ) → put S p r i f ≡ S i f ⊕ (S i p && r f)) → Placed S p r i

pub placed : (S : Slots) (p : ℕ) (r : Set) (i : ℕ) → Placed S p r i
unfolding put
placed S p r i = elim (test (eqb i p)) [ on t ↦ own (eqb-true i p t) (λ f. rw t) | off t ↦ other (eqb-false i p t) (λ f. rw t) ]

-- What putting asks of a row: p is its least member, and it has no full slot's index.
pub record Fresh (n : ℕ) (S : Slots) (p : ℕ) (r : Set) : Type 0 where
  pub inside : p < n
  pub lowest : LeastMember p r
  pub bounded : (f : ℕ) → r f ≡ true → f < n
  pub avoids : (j : ℕ) → S j j ≡ true → r j ≡ false

module _ {n : ℕ} {S : Slots} (R : Reduced n S) {p : ℕ} {r : Set} (F : Fresh n S p r) where
  put-free : S p p ≡ false
  put-free = elim (test (S p p)) [ on e ↦ absurd (clash F.lowest.member (F.avoids p e)) | off e ↦ e ]

  -- Another slot with a member has had one before.
  put_full : (i f : ℕ) → S i f ⊕ (S i p && r f) ≡ true → S i i ≡ true
  put_full i f e = elim (test (S i f))
      [ on x ↦ R.full i f x | off x ↦ elim (test (S i p)) [ on y ↦ R.full i p y | off y ↦ absurd (clash e (rw (x, y))) ] ]

  put-within : (i f : ℕ) → put S p r i f ≡ true → (i < n) × (f < n)
  put-within i f e = elim (placed S p r i) [
    | own q h ↦ (rw q F.inside, F.bounded f (sym (h f) ∙ e))
    | other d h ↦ elim (test (S i f)) [
      | on x ↦ R.within i f x
      | off x ↦ elim (test (S i p)) [ on y ↦ ((R.within i p y).0, F.bounded f (rw (h f, x, y) at e)) | off y ↦ absurd (clash e (rw (h f, x, y))) ]
    ]
  ]

  put_low : (i f : ℕ) → f < i → put S p r i f ≡ false
  put_low i f l = elim (placed S p r i) [
    | own q h ↦ h f ∙ F.lowest.first f (omega arith)
    | other d h ↦ elim (test (S i p))
        [ on y ↦ rw (h f, R.low i f l, y) (F.lowest.first f (omega (arith, slot-low R i p y))) | off y ↦ rw (h f, R.low i f l, y) ]
  ]

  put-own : (i f : ℕ) → put S p r i f ≡ true → put S p r i i ≡ true
  put-own i f e = elim (placed S p r i) [
    | own q h ↦ h i ∙ rw q F.lowest.member
    | other d h ↦ let x = put_full i f (sym (h f) ∙ e) in rw (h i, x, F.avoids i x, and-false (S i p))
  ]

  put-clear : (i j : ℕ) → put S p r j j ≡ true → j ≢ i → put S p r i j ≡ false
  put-clear i j e d = elim (placed S p r j) [
    | own q k ↦ elim (placed S p r i)
        [ own q' h ↦ absurd (d (omega arith)) | other d' h ↦ h j ∙ rw (q, F.lowest.member, and-true (S i p)) (xor_self (S i p)) ]
    | other d' k ↦ let x = put_full j j (sym (k j) ∙ e) in elim (placed S p r i)
        [ own q h ↦ h j ∙ F.avoids j x | other d'' h ↦ rw (h j, R.clear i j x d, F.avoids j x, and-false (S i p)) ]
  ]

  pub put-reduced : Reduced n (put S p r)
  put-reduced = record { within = put-within; low = put_low; full = put-own; clear = put-clear }

  pub put-stored : (w : Set) → Stored n (put S p r) w ↔ (Stored n S w × (dot n w r ≡ false))
  put-stored w = (λ k. let e = row k in (dot-stored n S w (before k e), e), λ k. dot-stored n (put S p r) w (after k.0 k.1))
    where
      row : Stored n (put S p r) w → dot n w r ≡ false
      row k = elim (placed S p r p) [ own q h ↦ dot-cong n w r _ (λ f l. sym (h f)) ∙ stored-dot n (put S p r) w k p F.inside | other d h ↦ absurd (d refl) ]

      even : (i : ℕ) → ((f : ℕ) → put S p r i f ≡ S i f ⊕ (S i p && r f)) → dot n w r ≡ false → dot n w (put S p r i) ≡ dot n w (S i)
      even i h e = dot-cong n w _ _ (λ f l. h f) ∙ dot-xor n w (S i) _ ∙ rw (dot-and n w (S i p) r, e, and-false (S i p)) (xor-false (dot n w (S i)))

      before : Stored n (put S p r) w → dot n w r ≡ false → (i : ℕ) → i < n → dot n w (S i) ≡ false
      before k e i l = elim (placed S p r i)
          [ own q h ↦ dot-none n w (S i) (λ f j. rw q (slot-none R p put-free f)) | other d h ↦ sym (even i h e) ∙ stored-dot n (put S p r) w k i l ]

      after : Stored n S w → dot n w r ≡ false → (i : ℕ) → i < n → dot n w (put S p r i) ≡ false
      after k e i l = elim (placed S p r i) [ own q h ↦ dot-cong n w _ r (λ f j. h f) ∙ e | other d h ↦ even i h e ∙ stored-dot n S w k i l ]

-- ---- any row

-- What the slots leave of a row.
unfoldable pub rest : ℕ → Slots → Set → Set
rest n S r = red S n (cut n r)

-- The row is reduced; if something is left, that becomes the slot of its least member.
unfoldable pub insert : ℕ → Slots → Set → Slots
insert n S r = cond (ltb (lead n (rest n S r)) n) (put S (lead n (rest n S r)) (rest n S r)) S

pub insert-none : (n : ℕ) (S : Slots) (r : Set) → ((f : ℕ) → f < n → rest n S r f ≡ false) → insert n S r ≡ S
unfolding insert
insert-none n S r h = rw (lead-none n (rest n S r) h, le-ltb n n (omega arith))

pub insert-put : (n : ℕ) (S : Slots) (r : Set) (p : ℕ) → p < n → LeastMember p (rest n S r) → insert n S r ≡ put S p (rest n S r)
unfolding insert
insert-put n S r p l k = rw (lead-least n p (rest n S r) l k, lt-ltb p n l)

module _ {n : ℕ} {S : Slots} (R : Reduced n S) (r : Set) where
  pub rest-fresh : (p : ℕ) → p < n → LeastMember p (rest n S r) → Fresh n S p (rest n S r)
  unfolding rest
  rest-fresh p l k = record { inside = l; lowest = k; bounded = red-within R n (cut n r) (cut-within n r); avoids = red-avoid R (cut n r) }

  pub rest-dot : (w : Set) → Stored n S w → dot n w (rest n S r) ≡ dot n w r
  unfolding rest
  rest-dot w h = red-dot n S w h n (cut n r) (omega arith) ∙ cut-dot n w r

  pub insert-reduced : Reduced n (insert n S r)
  insert-reduced = elim (least n (rest n S r))
      [ nothing h ↦ rw (insert-none n S r h) R | found p l k ↦ rw (insert-put n S r p l k) (put-reduced R (rest-fresh p l k)) ]

  pub insert-stored : (w : Set) → Stored n (insert n S r) w ↔ (Stored n S w × (dot n w r ≡ false))
  insert-stored w = elim (least n (rest n S r)) [
    | nothing h ↦ rw (insert-none n S r h) (λ k. (k, sym (rest-dot w k) ∙ dot-none n w _ h), λ k. k.0)
    | found p l k ↦ rw (insert-put n S r p l k) (Iff.trans (put-stored R (rest-fresh p l k) w) (λ h. (h.0, sym (rest-dot w h.0) ∙ h.1), λ h. (h.0, rest-dot w h.0 ∙ h.1)))
  ]

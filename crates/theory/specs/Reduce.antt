-- Reducing a set by a family of slots, and the weights that meet it oddly.
use Rattle.std.specs.Prelude.{ℕ, zero, suc, ◌<◌, ◌≤◌, ◌≡◌, refl, true, false, ◌&&◌}
use Rattle.std.proofs.Common.{sym, ◌∙◌, arith}
use Rattle.std.proofs.Math.Bool.{and-true, and-false}
use Rattle.meaning.specs.Sets.{◌⊕◌, Set, Slots}
use Rattle.theory.specs.Truth.{on, off, test, less, same, more, order, clash, xor_self, xor-false}
use Rattle.theory.specs.Parity.{dot, dot-none, dot-xor, dot-and}
use Rattle.meaning.specs.Slot.{Reduced, Stored}
use Rattle.theory.specs.Slots.{stored-dot, wit, wit-at, wit-in}

-- The set, with slot k added for each k below n in turn that is a member by then.
unfoldable pub red : Slots → ℕ → Set → Set
red S zero d = d
red S (suc k) d = λ f. red S k d f ⊕ (red S k d k && S k f)

-- Stored weights meet a set as they meet what is left of it.
pub red-dot : (n : ℕ) (S : Slots) (w : Set) → Stored n S w → (k : ℕ) (d : Set) → k ≤ n → dot n w (red S k d) ≡ dot n w d
unfolding red
red-dot n S w h zero d l = refl
red-dot n S w h (suc k) d l = dot-xor n w (red S k d) _
    ∙ rw (dot-and n w (red S k d k) (S k), stored-dot n S w h k (omega arith), red-dot n S w h k d (omega arith), and-false (red S k d k)) (xor-false (dot n w d))

-- Nothing is left at a full slot's index, where no slot has a member below its own.
pub red-lowest : {S : Slots} → ((i f : ℕ) → f < i → S i f ≡ false) → (k : ℕ) (d : Set) (p : ℕ) → p < k → S p p ≡ true → red S k d p ≡ false
unfolding red
red-lowest low zero d p l e = absurd (omega arith)
red-lowest {S} low (suc k) d p l e = elim (order p k) [
  | less j ↦ rw (red-lowest low k d p j e, low k p j) (and-false (red S k d k))
  | same q ↦ rw (← q, e, and-true (red S p d p)) (xor_self (red S p d p))
  | more j ↦ absurd (omega arith)
]

-- The turn of a full slot finds the set's own member: no slot before it brings its index in or takes it out.
pub red-later : {n : ℕ} {S : Slots} → Reduced n S → (k : ℕ) (d : Set) (p : ℕ) → k ≤ p → S p p ≡ true → red S k d p ≡ d p
unfolding red
red-later R zero d p l e = refl
red-later {n} {S} R (suc k) d p l e = rw (R.clear k p e (omega arith), and-false (red S k d k)) (xor-false (red S k d p) ∙ red-later R k d p (omega arith) e)

-- Reducing brings in no member past the bound.
pub red-below : {n : ℕ} {S : Slots} → ((i f : ℕ) → S i f ≡ true → (i < n) × (f < n)) → (k : ℕ) (d : Set) → ((f : ℕ) → d f ≡ true → f < n) → (f : ℕ) → red S k d f ≡ true → f < n
unfolding red
red-below within zero d h f e = h f e
red-below {n} {S} within (suc k) d h f e = elim (test (red S k d f)) [
  | on q ↦ red-below within k d h f q
  | off q ↦ elim (test (S k f)) [ on t ↦ (within k f t).1 | off t ↦ absurd (clash e (rw (q, t) (and-false (red S k d k)))) ]
]

pub red-within : {n : ℕ} {S : Slots} → Reduced n S → (k : ℕ) (d : Set) → ((f : ℕ) → d f ≡ true → f < n) → (f : ℕ) → red S k d f ≡ true → f < n
red-within R = red-below R.within

module _ {n : ℕ} {S : Slots} (R : Reduced n S) where
  pub red-avoid : (d : Set) (p : ℕ) → S p p ≡ true → red S n d p ≡ false
  red-avoid d p e = red-lowest R.low n d p (R.within p p e).0 e

  -- If nothing is left, all stored weights meet the set evenly.
  pub no-weights : (d w : Set) → ((f : ℕ) → f < n → red S n d f ≡ false) → Stored n S w → dot n w d ≡ false
  no-weights d w h k = sym (red-dot n S w k n d (omega arith)) ∙ dot-none n w _ h

  -- If m is left, its witness is stored and meets the set oddly.
  module _ (d : Set) (m : ℕ) (l : m < n) (left : red S n d m ≡ true) where
    pub left-free : S m m ≡ false
    left-free = elim (test (S m m)) [ on e ↦ absurd (clash left (red-avoid d m e)) | off e ↦ e ]

    pub weights-in : Stored n S (wit S m)
    weights-in = wit-in R m l left-free

    pub weights-odd : dot n (wit S m) d ≡ true
    weights-odd = sym (red-dot n S (wit S m) weights-in n d (omega arith)) ∙ wit-at n S m (red S n d) l (λ p e. red-avoid d p (R.full p m e)) ∙ left

-- The order of sets as whole numbers, and the least weights that a reduced family stores and that meet a set oddly.
use Rattle.std.specs.Prelude.{ℕ, zero, suc, ◌^◌, ◌<◌, ◌≤◌, ◌≡◌, refl, ◌≢◌, ◌&&◌}
use Rattle.std.proofs.Common.{sym, ◌∙◌, arith, ne_eqb}
use Rattle.std.proofs.Math.Bool.{true, false, and-false}
use Rattle.std.proofs.lemmas.Bool.{not-true}
use Rattle.meaning.specs.Sets.{◌⊕◌, Set, Slots, whole_number}
use Rattle.theory.specs.Truth.{Test, on, off, test, less, same, more, order, clash, xor_self, xor-false-same}
use Rattle.theory.specs.Parity.{dot, par-none, par-one, xor-dot}
use Rattle.meaning.specs.Slot.{LeastMember, Reduced, Stored}
use Rattle.theory.specs.Slots.{below_suc, stored-dot, wit, wit-past}
use Rattle.theory.specs.Reduce.{red, red-dot, weights-in}

pub whole_below : (n : ℕ) (a : Set) → whole_number n a < 2 ^ n
unfolding whole_number
whole_below zero a = omega arith
whole_below (suc n) a = elim (test (a n)) [ on e ↦ rw e (omega (arith, whole_below n a)) | off e ↦ rw e (omega (arith, whole_below n a)) ]

pub whole-cong : (n : ℕ) (a b : Set) → ((f : ℕ) → f < n → a f ≡ b f) → whole_number n a ≡ whole_number n b
unfolding whole_number
whole-cong zero a b h = refl
whole-cong (suc n) a b h = rw (whole-cong n a b (λ f l. h f (omega arith)), h n (omega arith))

-- The highest number in which two sets differ decides.
pub whole-less : (n h : ℕ) (a b : Set) → h < n → a h ≡ false → b h ≡ true → ((f : ℕ) → f < n → h < f → a f ≡ b f) → whole_number n a < whole_number n b
unfolding whole_number
whole-less zero h a b l x y k = absurd (omega arith)
whole-less (suc n) h a b l x y k = elim (order h n) [
  | less j ↦ rw (k n (omega arith) j) (omega (arith, whole-less n h a b j x y (λ f i m. k f (omega arith) m)))
  | same q ↦ rw (← q, x, y) (omega (arith, whole_below h a))
  | more j ↦ absurd (omega arith)
]

-- Two sets below n: they agree, or there is a highest number in which they differ.
pub data Highest (n : ℕ) (a b : Set) : Type 0 where
  agree : ((f : ℕ) → f < n → a f ≡ b f) → Highest n a b
  differ : (h : ℕ) → h < n → a h ⊕ b h ≡ true → ((f : ℕ) → f < n → h < f → a f ≡ b f) → Highest n a b

pub highest : (n : ℕ) (a b : Set) → Highest n a b
highest zero a b = agree (λ f l. absurd (omega arith))
highest (suc n) a b = go (highest n a b) (test (a n ⊕ b n))
  where
    go : Highest n a b → Test (a n ⊕ b n) → Highest (suc n) a b
    go t (on e) = differ n (omega arith) e (λ f l j. absurd (omega arith))
    go (agree k) (off e) = agree (below_suc n (λ f. a f ≡ b f) k (xor-false-same (a n) (b n) e))
    go (differ h l x k) (off e) = differ h (omega arith) x (below_suc n (λ f. h < f → a f ≡ b f) k (λ j. xor-false-same (a n) (b n) e))

pub whole_same : (n : ℕ) (a b : Set) → whole_number n a ≡ whole_number n b → (f : ℕ) → f < n → a f ≡ b f
whole_same n a b e = elim (highest n a b) [ agree k ↦ k | differ h l x k ↦ absurd (apart h l x k (test (a h))) ]
  where
    apart : (h : ℕ) → h < n → a h ⊕ b h ≡ true → ((f : ℕ) → f < n → h < f → a f ≡ b f) → Test (a h) → ⊥
    apart h l x k (on y) = omega (arith, whole-less n h b a l (not-true (b h) (rw y at x)) y (λ f i j. sym (k f i j)))
    apart h l x k (off y) = omega (arith, whole-less n h a b l y (rw y at x) k)

-- The witness of the least member that is left of a set is the least among the stored weights that meet the set oddly.
module _ {n : ℕ} {S : Slots} (R : Reduced n S) (d : Set) (m : ℕ) (l : m < n) (left : LeastMember m (red S n d)) (w : Set) (k : Stored n S w) (o : dot n w d ≡ true) where
  -- Were h the highest number in which the two differ, and the witness had it ..
  module _ (h : ℕ) (j : h < n) (x : wit S m h ≡ true) (y : w h ≡ false) (z : (f : ℕ) → f < n → h < f → wit S m f ≡ w f) where
    -- .. it would not be m: past m the witness has nothing, and w would share nothing with what is left,
    not_same : h ≡ m → ⊥
    unfolding dot
    not_same q = clash o (sym (red-dot n S w k n d (omega arith)) ∙ par-none n _ none)
      where
        none : (f : ℕ) → f < n → (w f && red S n d f) ≡ false
        none f i = elim (order f m) [
          | less p ↦ rw (left.first f p) (and-false (w f))
          | same p ↦ rw (p, ← q, y)
          | more p ↦ rw (← (z f i (omega arith)), wit-past R m f p)
        ]

    -- .. nor below m: slot h would be full, and the two would differ in one member of it only.
    not-below : h < m → ⊥
    unfolding dot wit
    not-below q = clash (par-one n h _ j others ∙ rw (x, y, full)) (xor-dot n (wit S m) w (S h) ∙ rw (stored-dot n S w k h j, stored-dot n S (wit S m) (weights-in R d m l left.member) h j))
      where
        full : S h h ≡ true
        full = R.full h m (rw (ne_eqb h m (omega arith)) at x)

        others : (f : ℕ) → f < n → f ≢ h → ((wit S m f ⊕ w f) && S h f) ≡ false
        others f i e = elim (order f h) [
          | less p ↦ rw (R.low h f p) (and-false (wit S m f ⊕ w f))
          | same p ↦ absurd (e p)
          | more p ↦ rw (z f i p, xor_self (w f))
        ]

  pub weights-least : whole_number n (wit S m) ≤ whole_number n w
  weights-least = elim (highest n (wit S m) w) [ agree z ↦ omega (arith, whole-cong n _ _ z) | differ h j x z ↦ decide h j x z (test (wit S m h)) ]
    where
      decide : (h : ℕ) → h < n → wit S m h ⊕ w h ≡ true → ((f : ℕ) → f < n → h < f → wit S m f ≡ w f) → Test (wit S m h) → whole_number n (wit S m) ≤ whole_number n w
      decide h j x z (off y) = omega (arith, whole-less n h (wit S m) w j y (rw y at x) z)
      decide h j x z (on y) = let t : w h ≡ false = not-true (w h) (rw y at x) in elim (order h m) [
        | less q ↦ absurd (not-below h j y t z q)
        | same q ↦ absurd (not_same h j y t z q)
        | more q ↦ absurd (clash y (wit-past R m h q))
      ]

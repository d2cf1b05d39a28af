-- Counts below a bound, and how long lists are that are made of what is counted.
use Prim.Native.Nat.{ℕ, zero, suc, ◌+◌, ◌*◌, ◌≤◌, ◌<◌}
use Rattle.std.specs.Prelude.{◌≡◌, Bool, not, ◌&&◌, List, [], ◌∷◌}
use Rattle.std.proofs.Math.Path.{refl, sym, ap₂}
use Rattle.std.proofs.Common.{ap, ◌∙◌, add-mul, suc-mul, add-one}
use Rattle.std.proofs.Math.Bool.{true, false, cond}
use native.Mathlib.Omega.{arith}
use Rattle.std.proofs.Math.ListN.{length, length-append}
use Rattle.meaning.specs.Sets.{listed, flat, count}
use Rattle.meaning.specs.Task.{Run}
use Rattle.theory.specs.Truth.{on, off, test, less, same, more, order}
use Rattle.theory.specs.Run.{members, members-listed}

pub count_most : (n : ℕ) (p : ℕ → Bool) → count n p ≤ n
unfolding count
count_most zero p = omega arith
count_most (suc n) p = elim (test (p n)) [ on q ↦ rw q (omega (arith, count_most n p)) | off q ↦ rw q (omega (arith, count_most n p)) ]

pub count-cong : (n : ℕ) (p q : ℕ → Bool) → ((i : ℕ) → i < n → p i ≡ q i) → count n p ≡ count n q
unfolding count
count-cong zero p q h = refl
count-cong (suc n) p q h = ap₂ (λ a b. a + cond b 1 0) (count-cong n p q (λ i l. h i (omega arith))) (h n (omega arith))

-- What is within another set has no more members,
pub count-within : (n : ℕ) (p q : ℕ → Bool) → ((i : ℕ) → p i ≡ true → q i ≡ true) → count n p ≤ count n q
unfolding count
count-within zero p q h = omega arith
count-within (suc n) p q h = elim (test (p n)) [
  | on e ↦ rw (e, h n e) (omega (arith, count-within n p q h))
  | off e ↦ rw e (omega (arith, count-within n p q h))
]

-- and fewer where it lacks one.
pub count_less : (n : ℕ) (p q : ℕ → Bool) → ((i : ℕ) → p i ≡ true → q i ≡ true) → (k : ℕ) → k < n → p k ≡ false → q k ≡ true → count n p < count n q
unfolding count
count_less zero p q h k l e t = absurd (omega arith)
count_less (suc n) p q h k l e t = elim (order k n) [
  | less m ↦ elim (test (p n)) [
    | on z ↦ rw (z, h n z) (omega (arith, count_less n p q h k m e t))
    | off z ↦ rw z (omega (arith, count_less n p q h k m e t))
  ]
  | same z ↦ rw (← z, e, t) (omega (arith, rw (← z) at (count-within n p q h)))
  | more m ↦ absurd (omega arith)
]

-- The first, and those after it.
pub count-front : (n : ℕ) (p : ℕ → Bool) → count (suc n) p ≡ cond (p 0) 1 0 + count n (λ k. p (suc k))
unfolding count
count-front zero p = omega arith
count-front (suc n) p = omega (arith, count-front n p)

-- The first a, and those after them.
pub count-split : (a n : ℕ) (p : ℕ → Bool) → count (a + n) p ≡ count a p + count n (λ k. p (a + k))
unfolding count
count-split a zero p = let z : a + 0 ≡ a = omega arith in rw z (omega arith)
count-split a (suc n) p = let z : a + suc n ≡ suc (a + n) = omega arith in rw z (omega (arith, count-split a n p))

-- Those of one kind, and those that are not.
pub count-kinds : (n : ℕ) (kind p : ℕ → Bool) → count n p ≡ count n (λ i. kind i && p i) + count n (λ i. not (kind i) && p i)
unfolding count
count-kinds zero kind p = refl
count-kinds (suc n) kind p = elim (test (kind n)) [
  | on q ↦ rw q (omega (arith, count-kinds n kind p))
  | off q ↦ rw q (omega (arith, count-kinds n kind p))
]

-- ---- in the turns of a loop

pub count_none : (p : ℕ → Bool) → 0 ≡ count 0 p
unfolding count
count_none p = refl

pub count-hit : (k : ℕ) (p : ℕ → Bool) (sum next : ℕ) → sum ≡ count k p → p k ≡ true → next ≡ sum + 1 → next ≡ count (k + 1) p
unfolding count
count-hit k p sum next e h q = q ∙ ap (λ n. n + 1) e ∙ rw (add-one k, h) refl

pub count-miss : (k : ℕ) (p : ℕ → Bool) (sum next : ℕ) → sum ≡ count k p → p k ≡ false → next ≡ sum → next ≡ count (k + 1) p
unfolding count
count-miss k p sum next e h q = q ∙ e ∙ rw (add-one k, h) (omega arith)

-- ---- sums

unfoldable pub total : ℕ → (ℕ → ℕ) → ℕ
total zero f = 0
total (suc n) f = total n f + f n

-- A table row by row.
pub count-square : (m n : ℕ) (p : ℕ → Bool) → count (m * n) p ≡ total m (λ i. count n (λ k. p (i * n + k)))
unfolding count total
count-square zero n p = let z : 0 * n ≡ 0 = omega arith in rw z refl
count-square (suc m) n p =
    let z : suc m * n ≡ m * n + n = suc-mul m n in
    rw z (count-split (m * n) n p ∙ ap (λ k. k + count n (λ k. p (m * n + k))) (count-square m n p))

-- ---- lengths

module _ {A : Type 0} where
  -- One thing for each that is counted.
  pub length_some : (n : ℕ) (p : ℕ → Bool) (x : ℕ → A) → length (flat n (λ k. cond (p k) (x k ∷ []) [])) ≡ count n p
  unfolding flat count
  length_some zero p x = refl
  length_some (suc n) p x = length-append (flat n (λ k. cond (p k) (x k ∷ []) [])) (cond (p n) (x n ∷ []) []) ∙ ap₂ ◌+◌ (length_some n p x) (one (p n))
    where
      one : (b : Bool) → length (cond b (x n ∷ []) []) ≡ cond b 1 0
      one true = refl
      one false = refl

  -- c things for each that is counted.
  pub length-when : (n c : ℕ) (p : ℕ → Bool) (g : ℕ → List A) → ((i : ℕ) → i < n → length (g i) ≡ c) → length (flat n (λ i. cond (p i) (g i) [])) ≡ count n p * c
  unfolding flat count
  length-when zero c p g h = omega arith
  length-when (suc n) c p g h =
      length-append (flat n (λ i. cond (p i) (g i) [])) (cond (p n) (g n) [])
      ∙ ap₂ ◌+◌ (length-when n c p g (λ i l. h i (omega arith))) (one (p n))
      ∙ sym (add-mul (count n p) (cond (p n) 1 0) c)
    where
      one : (b : Bool) → length (cond b (g n) []) ≡ cond b 1 0 * c
      one true = h n (omega arith) ∙ omega arith
      one false = omega arith

  -- Each list a multiple of c.
  pub length-total : (n c : ℕ) (f : ℕ → ℕ) (g : ℕ → List A) → ((i : ℕ) → i < n → length (g i) ≡ f i * c) → length (flat n g) ≡ total n f * c
  unfolding flat total
  length-total zero c f g h = omega arith
  length-total (suc n) c f g h =
      length-append (flat n g) (g n) ∙ ap₂ ◌+◌ (length-total n c f g (λ i l. h i (omega arith))) (h n (omega arith)) ∙ sym (add-mul (total n f) (f n) c)

-- A run is as long as the number of its members.
pub run-count : (lo n : ℕ) (l : List ℕ) → Run lo l n → length l ≡ count n (listed l)
unfolding members
run-count lo n l r = ap length (sym (members-listed lo n l r)) ∙ length_some n (listed l) (λ f. f)

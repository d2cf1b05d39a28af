-- The parity of a set below a number, and of what two sets share there. Both are sums of truth values under `◌⊕◌`, and counting comes to the same.
use Rattle.std.specs.Prelude.{ℕ, zero, suc, ◌+◌, ◌%◌, ◌<◌, ◌≡◌, refl, ◌≢◌, Bool, true, false, ◌&&◌, cond, eqb}
use Rattle.std.proofs.Common.{ap, ap₂, sym, ◌∙◌, arith, add-zero, eqb-true, eq-eqb, ne_eqb}
use Rattle.std.proofs.Math.Bool.{and_comm, and-true, and-false}
use Rattle.std.proofs.lemmas.Bool.{eqb-false}
use Rattle.meaning.specs.Sets.{◌⊕◌, Set, count, odd, shared}
use Rattle.theory.specs.Truth.{on, off, test, less, same, more, order, xors, xor-false, and_xor, xor-and}

-- The sum of the values of a set below n: whether the number of its members there is odd.
unfoldable pub par : ℕ → Set → Bool
par zero a = false
par (suc n) a = par n a ⊕ a n

-- The parity of what two sets share below n.
unfoldable pub dot : ℕ → Set → Set → Bool
dot n a b = par n (λ f. a f && b f)

-- ---- one sum

pub par-cong : (n : ℕ) (a b : Set) → ((f : ℕ) → f < n → a f ≡ b f) → par n a ≡ par n b
unfolding par
par-cong zero a b h = refl
par-cong (suc n) a b h = ap₂ ◌⊕◌ (par-cong n a b (λ f l. h f (omega arith))) (h n (omega arith))

pub par-none : (n : ℕ) (a : Set) → ((f : ℕ) → f < n → a f ≡ false) → par n a ≡ false
unfolding par
par-none zero a h = refl
par-none (suc n) a h = rw (par-none n a (λ f l. h f (omega arith)), h n (omega arith))

pub par-one : (n m : ℕ) (a : Set) → m < n → ((f : ℕ) → f < n → f ≢ m → a f ≡ false) → par n a ≡ a m
unfolding par
par-one zero m a l h = absurd (omega arith)
par-one (suc n) m a l h = elim (order m n) [
  | less k ↦ rw (h n (omega arith) (omega arith)) (simp xors (par-one n m a k (λ f j d. h f (omega arith) d)))
  | same e ↦ rw (e, par-none n a (λ f j. h f (omega arith) (omega arith)))
  | more k ↦ absurd (omega arith)
]

pub par-xor : (n : ℕ) (a b : Set) → par n (λ f. a f ⊕ b f) ≡ par n a ⊕ par n b
unfolding par
par-xor zero a b = refl
par-xor (suc n) a b = rw (par-xor n a b) (simp xors)

pub par-and : (n : ℕ) (c : Bool) (a : Set) → par n (λ f. c && a f) ≡ (c && par n a)
par-and n true a = refl
par-and n false a = par-none n _ (λ f l. refl)

pub par-swap : (n k : ℕ) (h : ℕ → ℕ → Bool) → par n (λ i. par k (h i)) ≡ par k (λ j. par n (λ i. h i j))
unfolding par
par-swap zero k h = sym (par-none k _ (λ j l. refl))
par-swap (suc n) k h = rw (par-swap n k h) (sym (par-xor k _ _))

-- ---- what two sets share

pub dot-comm : (n : ℕ) (a b : Set) → dot n a b ≡ dot n b a
unfolding dot
dot-comm n a b = par-cong n _ _ (λ f l. and_comm (a f) (b f))

pub dot-cong : (n : ℕ) (w a b : Set) → ((f : ℕ) → f < n → a f ≡ b f) → dot n w a ≡ dot n w b
unfolding dot
dot-cong n w a b h = par-cong n _ _ (λ f l. ap (w f &&◌) (h f l))

pub dot-none : (n : ℕ) (w a : Set) → ((f : ℕ) → f < n → a f ≡ false) → dot n w a ≡ false
unfolding dot
dot-none n w a h = par-none n _ (λ f l. rw (h f l) (and-false (w f)))

pub dot-xor : (n : ℕ) (w a b : Set) → dot n w (λ f. a f ⊕ b f) ≡ dot n w a ⊕ dot n w b
unfolding dot
dot-xor n w a b = par-cong n _ _ (λ f l. and_xor (w f) (a f) (b f)) ∙ par-xor n _ _

pub xor-dot : (n : ℕ) (a b g : Set) → dot n (λ f. a f ⊕ b f) g ≡ dot n a g ⊕ dot n b g
unfolding dot
xor-dot n a b g = par-cong n _ _ (λ f l. xor-and (a f) (b f) (g f)) ∙ par-xor n _ _

-- A set taken or left as a whole.
pub dot-and : (n : ℕ) (w : Set) (c : Bool) (a : Set) → dot n w (λ f. c && a f) ≡ (c && dot n w a)
dot-and n w true a = refl
dot-and n w false a = dot-none n w _ (λ f l. refl)

pub dot-one : (n m : ℕ) (w : Set) → m < n → dot n w (λ f. eqb f m) ≡ w m
unfolding dot
dot-one n m w l = par-one n m _ l (λ f j d. rw (ne_eqb f m d) (and-false (w f))) ∙ rw (eq-eqb m m refl) (and-true (w m))

pub dot-par : (n k : ℕ) (w : Set) (h : ℕ → Set) → dot n w (λ f. par k (λ i. h i f)) ≡ par k (λ i. dot n w (h i))
unfolding dot
dot-par n k w h = par-cong n _ _ (λ f l. sym (par-and k (w f) (λ i. h i f))) ∙ par-swap n k (λ f i. w f && h i f)

-- ---- counting

odd-add : (k : ℕ) (b : Bool) → odd (k + cond b 1 0) ≡ odd k ⊕ b
odd-add k true = elim (test (odd k)) [
  | on e ↦ let q : k % 2 ≡ 1 = eqb-true (k % 2) 1 e in rw e (ne_eqb ((k + 1) % 2) 1 (omega arith))
  | off e ↦ let d : k % 2 ≢ 1 = eqb-false (k % 2) 1 e in rw e (eq-eqb ((k + 1) % 2) 1 (omega arith))
]
odd-add k false = rw add-zero (sym (xor-false (odd k)))

pub odd-count : (n : ℕ) (p : Set) → odd (count n p) ≡ par n p
unfolding count par
odd-count zero p = refl
odd-count (suc n) p = odd-add (count n p) (p n) ∙ rw (odd-count n p)

pub odd-shared : (n : ℕ) (a b : Set) → odd (shared n a b) ≡ dot n a b
unfolding shared dot
odd-shared n a b = odd-count n _

-- The definitions count and the proofs sum: the two say "evenly" alike.
pub even-dot : (n : ℕ) (a b : Set) → odd (shared n a b) ≡ false → dot n a b ≡ false
even-dot n a b e = sym (odd-shared n a b) ∙ e

pub dot-even : (n : ℕ) (a b : Set) → dot n a b ≡ false → odd (shared n a b) ≡ false
dot-even n a b e = odd-shared n a b ∙ e

-- The bits of a word under the code's operations: exclusive or, and, shifts, the count of ones, the zeros below the lowest one.
use Rattle.std.specs.Prelude.{ℕ, zero, suc, ◌+◌, ◌/◌, ◌%◌, ◌^◌, ◌<◌, ◌≡◌, refl, ◌≢◌, Bool, true, false, ◌&&◌, cond, eqb}
use Rattle.std.proofs.Common.{ap, ap₂, sym, ◌∙◌, arith, div-one, add-zero, add-suc, shr-shr, pow_pos, eqb-true}
use Rattle.std.proofs.Math.Dec.{eqb-zero-suc, eqb-suc-zero, eqb-suc-suc}
use Rattle.std.specs.Int.Bits.{bit_xor, bit_and}
use Rattle.std.proofs.lemmas.Nat.{xor_shr, xor_mod, and_shr, and_mod}
use Rattle.std.specs.Int.Count.{ones, ones_step, ones-ones, count_trailing_zeros}
use Rattle.std.proofs.lemmas.Bool.{eqb-false}
use Rattle.meaning.specs.Sets.{◌⊕◌, Set, odd, count}
use Rattle.meaning.specs.Workspace.{bit}
use Rattle.theory.specs.Truth.{Test, on, off, test, xor_assoc, xor-false}
use Rattle.theory.specs.Count.{count-cong, count-front}
use Rattle.theory.specs.Parity.{par, odd-count}
use Rattle.theory.specs.Words.{bit_past}

-- The lowest digit as a number.
low : (x : ℕ) → x % 2 ≡ cond (odd x) 1 0
low x = elim (test (odd x)) [
  | on e ↦ rw e (eqb-true (x % 2) 1 e)
  | off e ↦ let d : x % 2 ≢ 1 = eqb-false (x % 2) 1 e in rw e (omega arith)
]

-- An operation that goes bit by bit does so at each bit.
module _ (op : ℕ → ℕ → ℕ) (truth : Bool → Bool → Bool)
    (shift : (x y k : ℕ) → op x y / 2 ^ k ≡ op (x / 2 ^ k) (y / 2 ^ k)) (rest : (x y k : ℕ) → op x y % 2 ^ k ≡ op (x % 2 ^ k) (y % 2 ^ k))
    (table : (b c : Bool) → eqb (op (cond b 1 0) (cond c 1 0)) 1 ≡ truth b c) where
  each : (x y k : ℕ) → bit (op x y) k ≡ truth (bit x k) (bit y k)
  each x y k = ap odd (shift x y k) ∙ ap (λ z. eqb z 1) (rest (x / 2 ^ k) (y / 2 ^ k) 1) ∙ ap₂ (λ b c. eqb (op b c) 1) (low (x / 2 ^ k)) (low (y / 2 ^ k)) ∙ table (bit x k) (bit y k)

pub bit-xor : (x y k : ℕ) → bit (bit_xor x y) k ≡ bit x k ⊕ bit y k
bit-xor = each bit_xor ◌⊕◌ xor_shr xor_mod table
  where
    table : (b c : Bool) → eqb (bit_xor (cond b 1 0) (cond c 1 0)) 1 ≡ b ⊕ c
    table true true = refl
    table true false = refl
    table false true = refl
    table false false = refl

pub bit-and : (x y k : ℕ) → bit (bit_and x y) k ≡ (bit x k && bit y k)
bit-and = each bit_and ◌&&◌ and_shr and_mod table
  where
    table : (b c : Bool) → eqb (bit_and (cond b 1 0) (cond c 1 0)) 1 ≡ (b && c)
    table true true = refl
    table true false = refl
    table false true = refl
    table false false = refl

-- ---- shifts

pub bit-shift : (x m k : ℕ) → bit (x / 2 ^ m) k ≡ bit x (m + k)
bit-shift x m k = ap odd (shr-shr x m k)

bit-first : (x : ℕ) → bit x 0 ≡ odd x
bit-first x = ap odd (div-one x)

bit-half : (x k : ℕ) → bit x (suc k) ≡ bit (x / 2) k
bit-half x k = let e : suc k ≡ 1 + k = omega arith in ap (bit x) e ∙ sym (bit-shift x 1 k)

pub bit-none : (k : ℕ) → bit 0 k ≡ false
bit-none k = bit_past 0 k (pow_pos k)

pub bit-power : (m k : ℕ) → bit (2 ^ m) k ≡ eqb k m
bit-power zero zero = refl
bit-power zero (suc k) = bit-half 1 k ∙ bit-none k ∙ sym (eqb-suc-zero k)
bit-power (suc m) zero = bit-first (2 ^ suc m) ∙ even (eqb-zero-suc m)
  where
    even : eqb 0 (suc m) ≡ false → odd (2 ^ suc m) ≡ eqb 0 (suc m)
    even e = rw e (let z : 2 ^ suc m % 2 ≡ 0 = omega arith in rw z)
bit-power (suc m) (suc k) = bit-half (2 ^ suc m) k ∙ rw eqb-suc-suc (let z : 2 ^ suc m / 2 ≡ 2 ^ m = omega arith in ap (λ x. bit x k) z ∙ bit-power m k)

-- ---- counts

pub par-add : (n m : ℕ) (a : Set) → par (n + m) a ≡ par n a ⊕ par m (λ k. a (n + k))
unfolding par
par-add n zero a = rw add-zero (sym (xor-false (par n a)))
par-add n (suc m) a = rw (add-suc n m) (rw (par-add n m a) (xor_assoc (par n a) (par m (λ k. a (n + k))) (a (n + m))))

-- The ones of a number are its bits ..
pub ones-count : (n x : ℕ) → x < 2 ^ n → ones x ≡ count n (bit x)
unfolding count
ones-count zero x l = let z : x ≡ 0 = omega arith in rw z (ones-ones 0)
ones-count (suc n) x l =
    ones_step x ∙ ap₂ ◌+◌ (low x ∙ ap (λ b. cond b 1 0) (sym (bit-first x))) (ones-count n (x / 2) (omega arith) ∙ count-cong n _ _ (λ k j. sym (bit-half x k)))
    ∙ sym (count-front n (bit x))

-- .. so the parity of their count is that of the bits.
pub odd-ones : (n x : ℕ) → x < 2 ^ n → odd (ones x) ≡ par n (bit x)
odd-ones n x l = ap odd (ones-count n x l) ∙ odd-count n (bit x)

-- Below its lowest one a number has no bit.
pub trailing_below : (n x k : ℕ) → k < count_trailing_zeros n x → bit x k ≡ false
unfolding count_trailing_zeros
trailing_below zero x k l = absurd (omega arith)
trailing_below (suc n) x k l = go k (test (odd x)) l (trailing_below n (x / 2))
  where
    go : (k : ℕ) → Test (odd x) → k < count_trailing_zeros (suc n) x → ((k : ℕ) → k < count_trailing_zeros n (x / 2) → bit (x / 2) k ≡ false) → bit x k ≡ false
    go k (on e) l h = absurd (omega (arith, rw (eqb-true (x % 2) 1 e) at l))
    go zero (off e) l h = bit-first x ∙ e
    go (suc k) (off e) l h = bit-half x k ∙ h k (let z : x % 2 ≡ 0 = low x ∙ rw e in omega (arith, rw z at l))

pub trailing_at : (n x : ℕ) → count_trailing_zeros n x < n → bit x (count_trailing_zeros n x) ≡ true
unfolding count_trailing_zeros
trailing_at zero x l = absurd (omega arith)
trailing_at (suc n) x l = go (test (odd x)) l (trailing_at n (x / 2))
  where
    go : Test (odd x) → count_trailing_zeros (suc n) x < suc n → (count_trailing_zeros n (x / 2) < n → bit (x / 2) (count_trailing_zeros n (x / 2)) ≡ true) → bit x (count_trailing_zeros (suc n) x) ≡ true
    go (on e) l h = rw (eqb-true (x % 2) 1 e) (bit-first x ∙ e)
    go (off e) l h = let z : x % 2 ≡ 0 = low x ∙ rw e in rw z (bit-half x (count_trailing_zeros n (x / 2)) ∙ h (omega (arith, rw z at l)))

pub trailing-within : (n x : ℕ) → x < 2 ^ n → x ≢ 0 → count_trailing_zeros n x < n
unfolding count_trailing_zeros
trailing-within zero x l d = absurd (omega arith)
trailing-within (suc n) x l d = go (test (odd x)) (trailing-within n (x / 2))
  where
    go : Test (odd x) → (x / 2 < 2 ^ n → x / 2 ≢ 0 → count_trailing_zeros n (x / 2) < n) → count_trailing_zeros (suc n) x < suc n
    go (on e) h = rw (eqb-true (x % 2) 1 e) (omega arith)
    go (off e) h = let z : x % 2 ≡ 0 = low x ∙ rw e in rw z (omega (arith, h (omega arith) (λ q. d (omega arith))))

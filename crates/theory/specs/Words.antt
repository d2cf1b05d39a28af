-- Words and the sets that they hold: the bits of a word, the words of a set, and that each of the two fixes the other.
use Rattle.std.specs.Prelude.{ℕ, zero, suc, ◌+◌, ◌-◌, ◌*◌, ◌/◌, ◌%◌, ◌^◌, ◌<◌, ◌≤◌, ◌≡◌, ◌≢◌, true, false, ◌&&◌, cond, List, ◌++◌, ltb, length, get_or}
use Rattle.std.proofs.Common.{ap, sym, ◌∙◌, arith, add-zero, lt_of_lt_of_le, mod-eq_of_lt, mul_assoc, pow_pos, pow_mono, pow-add, ext_get_or, eqb-true, ltb-true, ltb-false, lt-ltb, le-ltb}
use Rattle.std.proofs.Math.Nat.{add-mul-div_right, add-mul-mod_self_right, div-eq_of_lt, add-div_right, pow-succ'}
use Rattle.std.proofs.Math.Arith.{mod-mul}
use Rattle.std.proofs.Math.ListN.{get_or-eq_default, get_or-append}
use Rattle.std.proofs.lemmas.Bool.{eqb-false}
use Rattle.meaning.specs.Sets.{Set, whole_number}
use Rattle.meaning.specs.Limits.{word_bits}
use Rattle.meaning.specs.Workspace.{words_for, bit, has, packed}
use Rattle.theory.specs.Truth.{Test, on, off, test, less, same, more, order}
use Rattle.theory.specs.Flat.{length-table, get_d-table}
use Rattle.theory.specs.Whole.{whole_below, whole-cong}

-- ---- the bits of one word

-- What is added from the next power on leaves a bit as it was.
bit-add : (x m k : ℕ) → bit (x + m * 2 ^ suc k) k ≡ bit x k
bit-add x m k = let e : m * 2 ^ suc k ≡ (m * 2) * 2 ^ k = rw pow-succ' (sym (mul_assoc m 2 (2 ^ k))) in
    rw (e, add-mul-div_right x (m * 2) (pow_pos k), add-mul-mod_self_right (x / 2 ^ k) m 2)

bit-more : (n k x : ℕ) → k < n → bit (x + 2 ^ n) k ≡ bit x k
bit-more n k x l = let e : (n - suc k) + suc k ≡ n = omega arith in ap (λ m. bit (x + 2 ^ m) k) (sym e) ∙ rw (pow-add 2 (n - suc k) (suc k)) (bit-add x (2 ^ (n - suc k)) k)

bit-top : (n x : ℕ) → x < 2 ^ n → bit (x + 2 ^ n) n ≡ true
bit-top n x l = rw (add-div_right x (pow_pos n), div-eq_of_lt l)

pub bit_past : (x k : ℕ) → x < 2 ^ k → bit x k ≡ false
bit_past x k l = rw (div-eq_of_lt l)

pub bit-whole : (n : ℕ) (a : Set) (k : ℕ) → bit (whole_number n a) k ≡ (ltb k n && a k)
unfolding whole_number
bit-whole zero a k = rw (le-ltb k 0 (omega arith)) (bit_past 0 k (pow_pos k))
bit-whole (suc n) a k = elim (order k n) [
  | less l ↦ rw (lt-ltb k (suc n) (omega arith)) (low l (bit-whole n a k) (test (a n)))
  | same q ↦ rw (q, lt-ltb n (suc n) (omega arith)) (top (test (a n)))
  | more l ↦ rw (le-ltb k (suc n) l) (bit_past (whole_number (suc n) a) k (lt_of_lt_of_le (whole_below (suc n) a) (pow_mono l)))
]
  where
    low : k < n → bit (whole_number n a) k ≡ (ltb k n && a k) → Test (a n) → bit (whole_number (suc n) a) k ≡ a k
    low l h (on e) = rw e (bit-more n k (whole_number n a) l ∙ h ∙ rw (lt-ltb k n l))
    low l h (off e) = rw (e, add-zero) (h ∙ rw (lt-ltb k n l))

    top : Test (a n) → bit (whole_number (suc n) a) n ≡ a n
    top (on e) = rw e (bit-top n (whole_number n a) (whole_below n a))
    top (off e) = rw (e, add-zero) (bit_past (whole_number n a) n (whole_below n a))

-- The bits below n of a number make its remainder.
pub whole-bits : (n x : ℕ) → whole_number n (bit x) ≡ x % 2 ^ n
unfolding whole_number
whole-bits zero x = omega arith
whole-bits (suc n) x = rw (whole-bits n x, pow-succ' 2 n, mod-mul x {m = 2} (omega arith) (pow_pos n)) (high (test (bit x n)))
  where
    high : Test (bit x n) → x % 2 ^ n + cond (bit x n) (2 ^ n) 0 ≡ (x / 2 ^ n % 2) * 2 ^ n + x % 2 ^ n
    high (on e) = let q : x / 2 ^ n % 2 ≡ 1 = eqb-true (x / 2 ^ n % 2) 1 e in rw (e, q) (omega arith)
    high (off e) = let d : x / 2 ^ n % 2 ≢ 1 = eqb-false (x / 2 ^ n % 2) 1 e in let q : x / 2 ^ n % 2 ≡ 0 = omega arith in rw (e, q) (omega arith)

-- Numbers below a power of two with the same bits are equal.
pub bits-same : (n x y : ℕ) → x < 2 ^ n → y < 2 ^ n → ((k : ℕ) → k < n → bit x k ≡ bit y k) → x ≡ y
bits-same n x y l m h = sym (whole-bits n x ∙ mod-eq_of_lt l) ∙ whole-cong n (bit x) (bit y) h ∙ (whole-bits n y ∙ mod-eq_of_lt m)

-- ---- a list of words

-- Each word of a list is below 2 to the power 64.
abbrev pub Words : List ℕ → Type 0
Words l = (i : ℕ) → i < length l → get_or l i 0 < 2 ^ word_bits

pub has-at : (l : List ℕ) (i k : ℕ) → k < word_bits → has l (i * word_bits + k) ≡ bit (get_or l i 0) k
unfolding has
has-at l i k h = let p : (i * 64 + k) / 64 ≡ i = omega arith in let q : (i * 64 + k) % 64 ≡ k = omega arith in rw (p, q)

-- Two lists of words that are equally long and hold the same set are equal.
pub words_same : (l m : List ℕ) → length l ≡ length m → Words l → Words m → ((f : ℕ) → has l f ≡ has m f) → l ≡ m
words_same l m e wl wm h = ext_get_or 0 l m e (λ i k. bits-same word_bits _ _ (wl i k) (wm i (omega arith)) (λ b j. sym (has-at l i b j) ∙ h (i * word_bits + b) ∙ has-at m i b j))

-- ---- the words of a set

pub length-packed : (n : ℕ) (a : Set) → length (packed n a) ≡ words_for n
unfolding packed
length-packed n a = length-table (words_for n) _

-- One of the words.
pub get_d-packed : (n : ℕ) (a : Set) (k : ℕ) → k < words_for n → get_or (packed n a) k 0 ≡ whole_number word_bits (λ b. ltb (k * word_bits + b) n && a (k * word_bits + b))
unfolding packed
get_d-packed n a k l = get_d-table {A = ℕ} (words_for n) _ k 0 l

pub packed-words : (n : ℕ) (a : Set) → Words (packed n a)
packed-words n a i l = rw (get_d-packed n a i (rw (length-packed n a) at l)) (whole_below word_bits _)

pub has-packed : (n : ℕ) (a : Set) (f : ℕ) → has (packed n a) f ≡ (ltb f n && a f)
unfolding has
has-packed n a f = elim (test (ltb (f / word_bits) (words_for n))) [
  | on e ↦ ap (λ w. bit w (f % word_bits)) (get_d-packed n a (f / word_bits) (ltb-true (f / word_bits) (words_for n) e)) ∙ bit-whole word_bits _ (f % word_bits) ∙ whole
  | off e ↦ past (ltb-false (f / word_bits) (words_for n) e)
]
  where
    whole : (ltb (f % word_bits) word_bits && (ltb (f / word_bits * word_bits + f % word_bits) n && a (f / word_bits * word_bits + f % word_bits))) ≡ (ltb f n && a f)
    whole = let p : f / 64 * 64 + f % 64 ≡ f = omega arith in rw (lt-ltb (f % 64) 64 (omega arith), p)

    past : words_for n ≤ f / word_bits → bit (get_or (packed n a) (f / word_bits) 0) (f % word_bits) ≡ (ltb f n && a f)
    past l = let k : length (packed n a) ≤ f / word_bits = rw (length-packed n a) l in
        rw (le-ltb f n (omega arith), get_or-eq_default (packed n a) 0 k) (bit_past 0 (f % word_bits) (pow_pos (f % word_bits)))

pub packed-holds : (n : ℕ) (a : Set) (f : ℕ) → (n ≤ f → a f ≡ false) → has (packed n a) f ≡ a f
packed-holds n a f h = has-packed n a f ∙ elim (test (ltb f n)) [ on t ↦ rw t | off t ↦ rw t (sym (h (ltb-false f n t))) ]

-- Words that hold the members below n of a set, and nothing else, are the words of the set.
pub packed-is : (n : ℕ) (a : Set) (l : List ℕ) → length l ≡ words_for n → Words l → ((f : ℕ) → has l f ≡ (ltb f n && a f)) → packed n a ≡ l
packed-is n a l e w h = words_same (packed n a) l (length-packed n a ∙ sym e) (packed-words n a) w (λ f. has-packed n a f ∙ sym (h f))

-- Words with no bit at n or beyond are the words of the set that they hold.
pub packed-has : (n : ℕ) (l : List ℕ) → length l ≡ words_for n → Words l → ((f : ℕ) → n ≤ f → has l f ≡ false) → packed n (has l) ≡ l
packed-has n l e w h = packed-is n (has l) l e w (λ f. elim (test (ltb f n)) [ on t ↦ rw t | off t ↦ rw t (h f (ltb-false f n t)) ])

pub packed-cong : (n : ℕ) (a b : Set) → ((f : ℕ) → f < n → a f ≡ b f) → packed n a ≡ packed n b
packed-cong n a b h = packed-is n a (packed n b) (length-packed n b) (packed-words n b)
    (λ f. has-packed n b f ∙ elim (test (ltb f n)) [ on t ↦ rw (t, h f (ltb-true f n t)) | off t ↦ rw t ])

-- The words of a set, whatever follows them, have the set's members below n.
pub packed-front : (n : ℕ) (a : Set) (r : List ℕ) (f : ℕ) → f < n → has (packed n a ++ r) f ≡ a f
unfolding has
packed-front n a r f h = front (omega (arith, length-packed n a)) ∙ packed-holds n a f (λ k. absurd (omega arith))
  where
    front : f / word_bits < length (packed n a) → has (packed n a ++ r) f ≡ has (packed n a) f
    front k = rw (has, get_or-append (packed n a) r 0 (f / word_bits) k)

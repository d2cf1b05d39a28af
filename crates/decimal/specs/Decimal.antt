-- Numbers in decimal: how a word of the line is made of a shorter one, and how long words are.
use Rattle.std.specs.Prelude.{ℕ, zero, suc, ◌+◌, ◌*◌, ◌/◌, ◌%◌, ◌^◌, ◌<◌, ◌≤◌, ◌≡◌, refl, List, [], ◌∷◌, ◌++◌, ltb, length}
use Rattle.std.proofs.Common.{sym, ap, ◌∙◌, append_assoc, append-nil, arith, length-append, lt-ltb, le-ltb, ltb-true, ltb-false}
use Rattle.std.proofs.Math.Nat.{pow-succ'}
use Rattle.meaning.specs.Task.{Run}
use Rattle.meaning.specs.Line.{digits, word, words_in}
use Rattle.theory.specs.Truth.{on, off, test}
use Rattle.theory.specs.Run.{run-rest, run_length}

-- A blank and so many digits.
abbrev pub word_width : ℕ → ℕ
word_width most = suc most

-- ---- one word

digits-one : (k n : ℕ) → n < 10 → digits (suc k) n ≡ (48 + n) ∷ []
unfolding digits
digits-one k n h = cc (lt-ltb n 10 h)

digits_more : (k n : ℕ) → 10 ≤ n → digits (suc k) n ≡ digits k (n / 10) ++ ((48 + n % 10) ∷ [])
unfolding digits
digits_more k n h = cc (le-ltb n 10 h)

-- Whatever is enough for a number's digits gives the same.
digits-enough : (k m n : ℕ) → n < k → n < m → digits k n ≡ digits m n
digits-enough zero m n h l = absurd (omega arith)
digits-enough (suc k) zero n h l = absurd (omega arith)
digits-enough (suc k) (suc m) n h l = elim (test (ltb n 10)) [
  | on e ↦ digits-one k n (ltb-true n 10 e) ∙ sym (digits-one m n (ltb-true n 10 e))
  | off e ↦
      let b : 10 ≤ n = ltb-false n 10 e in
      digits_more k n b ∙ ap (λ d. d ++ ((48 + n % 10) ∷ [])) (digits-enough k m (n / 10) (omega arith) (omega arith)) ∙ sym (digits_more m n b)
]

pub word-one : (n : ℕ) → n < 10 → word n ≡ 32 ∷ (48 + n) ∷ []
unfolding word
word-one n h = ap (λ d. 32 ∷ d) (digits-one n n h)

pub word_more : (n : ℕ) → 10 ≤ n → word n ≡ word (n / 10) ++ ((48 + n % 10) ∷ [])
unfolding word
word_more n h =
    ap (λ d. 32 ∷ d) (digits_more n n h) ∙ ap (λ d. 32 ∷ (d ++ ((48 + n % 10) ∷ []))) (digits-enough n (suc (n / 10)) (n / 10) (omega arith) (omega arith))

pub word-longer : (n : ℕ) → 10 ≤ n → length (word n) ≡ length (word (n / 10)) + 1
word-longer n h = ap length (word_more n h) ∙ length-append (word (n / 10)) ((48 + n % 10) ∷ [])

digits-few : (most k n : ℕ) → n < 10 ^ suc most → length (digits k n) ≤ suc most
unfolding digits
digits-few most zero n h = omega arith
digits-few zero (suc k) n h = rw (digits-one k n h) (omega arith)
digits-few (suc most) (suc k) n h = elim (test (ltb n 10)) [
  | on e ↦ rw (digits-one k n (ltb-true n 10 e)) (omega arith)
  | off e ↦ rw (digits_more k n (ltb-false n 10 e), length-append (digits k (n / 10)) ((48 + n % 10) ∷ [])) (omega (arith, digits-few most k (n / 10) (omega (arith, pow-succ' 10 (suc most)))))
]

-- A number that has at most so many digits.
pub word-few : (most n : ℕ) → 0 < most → n < 10 ^ most → length (word n) ≤ word_width most
unfolding word
word-few zero n some h = absurd (omega arith)
word-few (suc most) n some h = omega (arith, digits-few most (suc n) n h)

-- ---- the words of a list

pub words-join : (l m : List ℕ) → words_in (l ++ m) ≡ words_in l ++ words_in m
unfolding words_in
words-join [] m = refl
words-join (n ∷ l) m = ap (λ rest. word n ++ rest) (words-join l m) ∙ sym (append_assoc (word n) (words_in l) (words_in m))

pub words-one : (n : ℕ) → words_in (n ∷ []) ≡ word n
unfolding words_in
words-one n = append-nil (word n)

-- An increasing list of numbers that have at most so many digits.
pub words-few : (most low high : ℕ) (l : List ℕ) → 0 < most → high ≤ 10 ^ most → Run low l high → length (words_in l) ≤ word_width most * length l
unfolding words_in
words-few most low high [] some h r = omega arith
words-few most low high (n ∷ l) some h r =
    let rest = run-rest low high n l r in
    let below : n < 10 ^ most = omega (arith, run_length (suc n) high l rest) in
    rw (length-append (word n) (words_in l)) (omega (arith, word-few most n some below, words-few most (suc n) high l some h rest))

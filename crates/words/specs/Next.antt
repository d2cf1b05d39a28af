-- The next member of a set, at a number or above it, how it is found in words, and words that have none.
use Rattle.std.specs.Prelude.{ℕ, ◌+◌, ◌-◌, ◌*◌, ◌/◌, ◌%◌, ◌^◌, ◌<◌, ◌≤◌, ◌≡◌, ◌≢◌, true, false, List, ltb, length, get_or, take, drop}
use Rattle.std.proofs.Common.{ap, sym, ◌∙◌, arith, lt_of_lt_of_le, pow_mono, shr_lt, length-take, get_or-take, ltb-true, ltb-false}
use Rattle.std.specs.Int.Count.{count_trailing_zeros}
use Rattle.meaning.specs.Sets.{Set}
use Rattle.meaning.specs.Limits.{word_bits}
use Rattle.meaning.specs.Workspace.{bit, has}
use Rattle.meaning.specs.Slot.{LeastMember}
use Rattle.theory.specs.Truth.{on, off, test, clash}
use Rattle.theory.specs.Words.{bit_past, has-at}
use Rattle.theory.specs.Slots.{lead, lead-none, lead-least}
use Rattle.words.specs.Bits.{bit-none, bit-shift, trailing_below, trailing_at, trailing-within}
use Rattle.words.specs.Part.{has-past, has-drop}

-- From one number on and below another a set has no member.
abbrev pub Clear : Set → ℕ → ℕ → Type 0
Clear a start end = (f : ℕ) → start ≤ f → f < end → a f ≡ false

-- The number r is the least member of a set from `start` on and below n; n itself where there is none.
pub record Next (a : Set) (n start r : ℕ) : Type 0 where
  pub above : start ≤ r
  pub within : r ≤ n
  pub clear : Clear a start r
  pub member : r < n → a r ≡ true

-- From 0 on it is the least member of all.
pub next-least : (a : Set) (n r : ℕ) → Next a n 0 r → r < n → LeastMember r a
next-least a n r h l = record { member = h.member l; first = λ f k. h.clear f (omega arith) k }

pub next-lead : (a : Set) (n r : ℕ) → Next a n 0 r → lead n a ≡ r
next-lead a n r h = elim (test (ltb r n)) [
  | on e ↦ lead-least n r a (ltb-true r n e) (next-least a n r h (ltb-true r n e))
  | off e ↦ lead-none n a (λ f l. h.clear f (omega arith) (omega (arith, ltb-false r n e))) ∙ omega (arith, h.within, ltb-false r n e)
]

-- ---- found in words

-- Nothing is left.
pub next-none : (a : Set) (n start r : ℕ) → start ≤ n → r ≡ n → Clear a start n → Next a n start r
next-none a n start r l q h = rw q (record { above = l; within = omega arith; clear = h; member = λ k. absurd (omega arith) })

-- The first m numbers from `base` on are the bits of x: the lowest one of x is the next member.
lowest : (a : Set) (n start base m x : ℕ) → start ≤ base → Clear a start base → base + m ≤ n → m ≤ word_bits → x < 2 ^ m → x ≢ 0
    → ((k : ℕ) → k < m → a (base + k) ≡ bit x k) → Next a n start (base + count_trailing_zeros word_bits x)
lowest a n start base m x l c room small below some bits = record { above = omega arith; within = omega (arith, inside); clear = clear; member = λ k. bits (count_trailing_zeros 64 x) inside ∙ at }
  where
    at : bit x (count_trailing_zeros 64 x) ≡ true
    at = trailing_at 64 x (trailing-within 64 x (lt_of_lt_of_le below (pow_mono small)) some)

    inside : count_trailing_zeros 64 x < m
    inside = elim (test (ltb (count_trailing_zeros 64 x) m)) [
      | on e ↦ ltb-true (count_trailing_zeros 64 x) m e
      | off e ↦ absurd (clash at (bit_past x (count_trailing_zeros 64 x) (lt_of_lt_of_le below (pow_mono (ltb-false (count_trailing_zeros 64 x) m e)))))
    ]

    clear : Clear a start (base + count_trailing_zeros 64 x)
    clear f j k = elim (test (ltb f base)) [
      | on e ↦ c f j (ltb-true f base e)
      | off e ↦ let b : base ≤ f = ltb-false f base e in let q : base + (f - base) ≡ f = omega arith in
          ap a (sym q) ∙ bits (f - base) (omega (arith, inside)) ∙ trailing_below 64 x (f - base) (omega arith)
    ]

-- What words hold that a function gives one at a time.
abbrev pub held : (ℕ → ℕ) → Set
held word f = bit (word (f / word_bits)) (f % word_bits)

module _ (word : ℕ → ℕ) where
  held-at : (i k : ℕ) → k < word_bits → held word (i * word_bits + k) ≡ bit (word i) k
  held-at i k h = let p : (i * 64 + k) / 64 ≡ i = omega arith in let q : (i * 64 + k) % 64 ≡ k = omega arith in rw (p, q)

  -- What stands in the word of `start` from there on.
  abbrev pub rest_of : ℕ → ℕ
  rest_of start = word (start / word_bits) / 2 ^ (start % word_bits)

  rest-bits : (start k : ℕ) → k < word_bits - start % word_bits → held word (start + k) ≡ bit (rest_of start) k
  rest-bits start k h = let p : (start + k) / 64 ≡ start / 64 = omega arith in let q : (start + k) % 64 ≡ start % 64 + k = omega arith in
      rw (p, q) (sym (bit-shift (word (start / 64)) (start % 64) k))

  pub next-rest : (count start : ℕ) → start / word_bits < count → word (start / word_bits) < 2 ^ word_bits → rest_of start ≢ 0
      → Next (held word) (word_bits * count) start (start + count_trailing_zeros word_bits (rest_of start))
  next-rest count start h b d = lowest (held word) (64 * count) start start (64 - start % 64) (rest_of start)
      (omega arith) (λ f j k. absurd (omega arith)) (omega arith) (omega arith) small d (rest-bits start)
    where
      small : rest_of start < 2 ^ (64 - start % 64)
      small = let e : 64 - start % 64 + start % 64 ≡ 64 = omega arith in shr_lt (64 - start % 64) (start % 64) (rw e b)

  pub clear-rest : (start : ℕ) → rest_of start ≡ 0 → Clear (held word) start ((start / word_bits + 1) * word_bits)
  clear-rest start e f j k = let q : start + (f - start) ≡ f = omega arith in ap (held word) (sym q) ∙ rest-bits start (f - start) (omega arith) ∙ rw e (bit-none (f - start))

  pub next_word : (count start i : ℕ) → start ≤ i * word_bits → i < count → Clear (held word) start (i * word_bits) → word i < 2 ^ word_bits → word i ≢ 0
      → Next (held word) (word_bits * count) start (i * word_bits + count_trailing_zeros word_bits (word i))
  next_word count start i h k c b d = lowest (held word) (64 * count) start (i * 64) 64 (word i) h c (omega arith) (omega arith) b d (held-at i)

  pub clear-word : (start i : ℕ) → Clear (held word) start (i * word_bits) → word i ≡ 0 → Clear (held word) start ((i + 1) * word_bits)
  clear-word start i c e f j k = elim (test (ltb f (i * 64))) [
    | on t ↦ c f j (ltb-true f (i * 64) t)
    | off t ↦ let b : i * 64 ≤ f = ltb-false f (i * 64) t in let q : i * 64 + (f - i * 64) ≡ f = omega arith in
        ap (held word) (sym q) ∙ held-at i (f - i * 64) (omega arith) ∙ rw e (bit-none (f - i * 64))
  ]

-- ---- no member at all

abbrev pub Empty : List ℕ → Type 0
Empty l = (f : ℕ) → has l f ≡ false

-- A word that is not 0 has a member.
pub not-empty : (l : List ℕ) (i : ℕ) → get_or l i 0 < 2 ^ word_bits → get_or l i 0 ≢ 0 → Empty l → ⊥
not-empty l i b d h =
    let x = get_or l i 0 in
    let small : count_trailing_zeros word_bits x < word_bits = trailing-within word_bits x b d in
    clash (has-at l i (count_trailing_zeros word_bits x) small ∙ trailing_at word_bits x small) (h (i * word_bits + count_trailing_zeros word_bits x))

pub all-clear : (l : List ℕ) → ((i : ℕ) → i < length l → get_or l i 0 ≡ 0) → Empty l
unfolding has
all-clear l h f = elim (test (ltb (f / word_bits) (length l))) [
  | on e ↦ rw (h (f / word_bits) (ltb-true (f / word_bits) (length l) e)) (bit-none (f % word_bits))
  | off e ↦ has-past l f (omega (arith, ltb-false (f / word_bits) (length l) e))
]

-- The first words have what all have, where the others have no member.
pub has-take : (k : ℕ) (l : List ℕ) → Empty (drop k l) → (f : ℕ) → has (take k l) f ≡ has l f
unfolding has
has-take k l h f = elim (test (ltb f (k * word_bits))) [
  | on e ↦ rw (get_or-take k l (f / word_bits) 0 (omega (arith, ltb-true f (k * word_bits) e)))
  | off e ↦
      let past : k * word_bits ≤ f = ltb-false f (k * word_bits) e in
      let there : k * word_bits + (f - k * word_bits) ≡ f = omega arith in
      has-past (take k l) f (omega (arith, length-take k l)) ∙ sym (h (f - k * word_bits)) ∙ has-drop k l (f - k * word_bits) ∙ ap (has l) there
]

-- What the code does to the words of one slot or row, and what they hold afterwards.
use Rattle.std.specs.Prelude.{ℕ, zero, suc, ◌+◌, ◌-◌, ◌*◌, ◌<◌, ◌≡◌, refl, Bool, true, false, ◌&&◌, cond, List, [], ◌∷◌, ◌++◌, eqb, ltb, length, get_or, take, drop}
use Rattle.std.proofs.Common.{ap, ap₂, sym, ◌∙◌, append-nil, arith, length-drop, drop_of_length-le, take_all, ltb-true, ltb-false}
use Rattle.std.specs.Int.Bits.{xor_zero_r}
use Rattle.std.proofs.Math.ListN.{get_or-eq_default}
use Rattle.meaning.specs.Sets.{◌⊕◌, Set}
use Rattle.meaning.specs.Limits.{word_bits}
use Rattle.meaning.specs.Workspace.{has}
use Rattle.theory.specs.Truth.{on, off, test, clash, xor-false}
use Rattle.theory.specs.Words.{Words, bits-same, has-at}
use Rattle.words.specs.Bits.{bit-none}
use Rattle.words.specs.Change.{joined, summed, toggled, length-summed, has-summed, has-toggled}

-- A set is empty or has p as least member.
pub record Led (p : ℕ) (a : Set) : Type 0 where
  pub low : (f : ℕ) → f < p → a f ≡ false
  pub full : (f : ℕ) → a f ≡ true → a p ≡ true

pub led-none : (p : ℕ) (a : Set) → Led p a → a p ≡ false → (f : ℕ) → a f ≡ false
led-none p a h e f = elim (test (a f)) [ on t ↦ absurd (clash (h.full f t) e) | off t ↦ t ]

-- A slot from which p is taken out by a row.
unfoldable pub cleared : ℕ → List ℕ → List ℕ → List ℕ
cleared p row slot = cond (has slot p) (summed slot row) slot

-- A set with feature i toggled, on a condition.
unfoldable pub marked : Bool → List ℕ → ℕ → List ℕ
marked b set i = cond b (toggled set i) set

-- ---- words added from a word on

-- A word with no bit is 0.
word_none : (m : List ℕ) (i : ℕ) → Words m → ((k : ℕ) → k < word_bits → has m (i * word_bits + k) ≡ false) → get_or m i 0 ≡ 0
word_none m i w h = elim (test (ltb i (length m))) [
  | on t ↦ bits-same word_bits (get_or m i 0) 0 (w i (ltb-true i (length m) t)) (omega arith) (λ k l. sym (has-at m i k l) ∙ h k l ∙ sym (bit-none k))
  | off t ↦ get_or-eq_default m 0 {n = i} (ltb-false i (length m) t)
]

summed-after : (k : ℕ) (l m : List ℕ) → length l ≡ length m → ((i : ℕ) → i < k → get_or m i 0 ≡ 0) → take k l ++ summed (drop k l) (drop k m) ≡ summed l m
unfolding joined
summed-after zero l m e h = refl
summed-after (suc k) [] m e h = refl
summed-after (suc k) (x ∷ l) [] e h = absurd (omega arith)
summed-after (suc k) (x ∷ l) (y ∷ m) e h = let q : y ≡ 0 = h 0 (omega arith) in rw (q, xor_zero_r x) (ap (◌∷◌ x) (summed-after k l m (omega arith) (λ i j. h (suc i) (omega arith))))

-- Words that are added from word k on are added whole where the added ones hold nothing before.
pub added-from : (k : ℕ) (l m : List ℕ) → Words m → length l ≡ length m → ((f : ℕ) → f < k * word_bits → has m f ≡ false)
    → take k l ++ (summed (take (length l - k) (drop k l)) (take (length m - k) (drop k m)) ++ drop (length l - k) (drop k l)) ≡ summed l m
added-from k l m w e h = rw (
  take_all (length l - k) (drop k l) (rw (length-drop k l) (omega arith)),
  take_all (length m - k) (drop k m) (rw (length-drop k m) (omega arith)),
  drop_of_length-le (drop k l) {i = length l - k} (rw (length-drop k l) (omega arith)),
  append-nil (summed (drop k l) (drop k m)),
)
    (summed-after k l m e (λ i j. word_none m i w (λ b t. h (i * word_bits + b) (omega arith))))

-- Words that hold nothing change nothing.
pub added_none : (l m : List ℕ) → Words m → length l ≡ length m → ((f : ℕ) → has m f ≡ false) → l ≡ summed l m
unfolding joined
added_none l m w e h = sym (append-nil l)
    ∙ ap₂ ◌++◌ (sym (take_all (length l) l (omega arith))) (none (drop (length l) l) (drop_of_length-le l {i = length l} (omega arith)))
    ∙ summed-after (length l) l m e (λ i j. word_none m i w (λ b t. h (i * word_bits + b)))
  where
    none : (d : List ℕ) → d ≡ [] → [] ≡ summed d (drop (length l) m)
    none d q = rw q

-- ---- what a slot and a set hold afterwards

pub length-cleared : (p : ℕ) (row slot : List ℕ) → length (cleared p row slot) ≡ length slot
unfolding cleared
length-cleared p row slot = elim (test (has slot p)) [ on t ↦ rw t (length-summed slot row) | off t ↦ rw t ]

pub has-cleared : (p : ℕ) (row slot : List ℕ) (f : ℕ) → length slot ≡ length row → has (cleared p row slot) f ≡ has slot f ⊕ (has slot p && has row f)
unfolding cleared
has-cleared p row slot f e = elim (test (has slot p)) [ on t ↦ rw t (has-summed slot row f e) | off t ↦ rw t (sym (xor-false (has slot f))) ]

pub has-marked : (b : Bool) (set : List ℕ) (i f : ℕ) → i < word_bits * length set → has (marked b set i) f ≡ (b && eqb f i) ⊕ has set f
unfolding marked
has-marked true set i f l = has-toggled set i f l
has-marked false set i f l = refl

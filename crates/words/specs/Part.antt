-- What a part of a list of words holds, and what joined lists hold.
use Rattle.std.specs.Prelude.{ℕ, ◌+◌, ◌-◌, ◌*◌, ◌/◌, ◌%◌, ◌<◌, ◌≤◌, min, ◌≡◌, false, List, ◌++◌, ltb, length, take, drop, replicate}
use Rattle.std.proofs.Common.{arith, length-take, length-drop, get_or-take, get_or-drop, get_or-append-add, ltb-true, ltb-false}
use Rattle.std.proofs.lemmas.List.{length-replicate, get_or-replicate}
use Rattle.std.proofs.Math.ListN.{get_or-eq_default, get_or-append}
use Rattle.meaning.specs.Limits.{word_bits}
use Rattle.meaning.specs.Workspace.{has}
use Rattle.theory.specs.Truth.{on, off, test}
use Rattle.theory.specs.Words.{Words}
use Rattle.words.specs.Bits.{bit-none}

-- ---- what a list holds

-- Past its words a list holds nothing.
pub has-past : (l : List ℕ) (g : ℕ) → word_bits * length l ≤ g → has l g ≡ false
unfolding has
has-past l g h = rw (get_or-eq_default l 0 {n = g / 64} (omega arith)) (bit-none (g % 64))

pub has-none : (n g : ℕ) → has (replicate n 0) g ≡ false
unfolding has
has-none n g = elim (test (ltb (g / 64) n)) [
  | on e ↦ rw (get_or-replicate {A = ℕ} n (g / 64) 0 0 (ltb-true (g / 64) n e)) (bit-none (g % 64))
  | off e ↦ has-past (replicate n 0) g (rw (length-replicate {A = ℕ} n 0) (omega (arith, ltb-false (g / 64) n e)))
]

pub has-drop : (k : ℕ) (l : List ℕ) (g : ℕ) → has (drop k l) g ≡ has l (k * word_bits + g)
unfolding has
has-drop k l g = let p : (k * 64 + g) / 64 ≡ k + g / 64 = omega arith in let q : (k * 64 + g) % 64 ≡ g % 64 = omega arith in rw (p, q, get_or-drop k l (g / 64) 0)

-- In joined lists the first ..
pub has-front : (l m : List ℕ) (g : ℕ) → g < word_bits * length l → has (l ++ m) g ≡ has l g
unfolding has
has-front l m g h = rw (get_or-append l m 0 (g / 64) (omega arith))

-- .. and the second.
pub has-back : (l m : List ℕ) (g : ℕ) → has (l ++ m) (length l * word_bits + g) ≡ has m g
unfolding has
has-back l m g = let p : (length l * 64 + g) / 64 ≡ length l + g / 64 = omega arith in let q : (length l * 64 + g) % 64 ≡ g % 64 = omega arith in rw (p, q, get_or-append-add l m (g / 64) 0)

-- ---- words stay below their bound

pub words_take : (k : ℕ) (l : List ℕ) → Words l → Words (take k l)
words_take k l w i h = let j : i < min k (length l) = rw (length-take k l) at h in rw (get_or-take k l i 0 (omega arith)) (w i (omega arith))

pub words-drop : (k : ℕ) (l : List ℕ) → Words l → Words (drop k l)
words-drop k l w i h = let j : i < length l - k = rw (length-drop k l) at h in rw (get_or-drop k l i 0) (w (k + i) (omega arith))

pub words-none : (n : ℕ) → Words (replicate n 0)
words-none n i h = rw (get_or-replicate {A = ℕ} n i 0 0 (rw (length-replicate {A = ℕ} n 0) at h)) (omega arith)

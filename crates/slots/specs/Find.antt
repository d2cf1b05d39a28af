-- Sets that are collected slot by slot, and what finding leaves.
use Rattle.std.specs.Prelude.{ℕ, ◌+◌, ◌*◌, ◌<◌, ◌≤◌, ◌≡◌, refl, Bool, ◌&&◌, cond, List, ◌++◌, eqb, drop, replicate}
use Rattle.std.proofs.Common.{ap, sym, ◌∙◌, arith, length-append}
use Rattle.std.proofs.Math.Bool.{true, false, and-true, and-false}
use Rattle.std.proofs.Math.Dec.{ltb}
use Rattle.std.proofs.Math.ListN.{length, get_or-append}
use borrow.Author.Tests.{eq-eqb, ne_eqb, lt-ltb, le-ltb, ltb-true, ltb-false}
use Rattle.meaning.specs.Sets.{◌⊕◌, Set, Slots}
use Rattle.meaning.specs.Limits.{word_bits}
use Rattle.meaning.specs.Slot.{Reduced}
use Rattle.meaning.specs.Workspace.{has, packed, words_for}
use Rattle.theory.specs.Truth.{on, off, test, less, same, more, order, xor_comm, xor-false}
use Rattle.theory.specs.Words.{Words}
use Rattle.theory.specs.Slots.{lead, lead-none, lead-least, wit, wit-past}
use Rattle.words.specs.Change.{toggled, has-toggled}
use Rattle.words.specs.Next.{Next, next-least}
use Rattle.words.specs.Part.{has-none}
use Rattle.slots.specs.Area.{slot_at, slots_in, slot_has}
use Rattle.slots.specs.Change.{marked, has-marked}
use Rattle.slots.specs.Reducing.{words_of}

-- ---- a set collected slot by slot

-- To what a set began with, each feature below i is added that passes a test.
abbrev pub Collected : (ℕ → Bool) → Set → ℕ → List ℕ → Type 0
Collected test base i set = (f : ℕ) → has set f ≡ (ltb f i && test f) ⊕ base f

pub collected-first : (test : ℕ → Bool) (base : Set) (set : List ℕ) → ((f : ℕ) → has set f ≡ base f) → Collected test base 0 set
collected-first test base set h f = rw (le-ltb f 0 (omega arith)) (h f)

pub collected-next : (test : ℕ → Bool) (base : Set) (i : ℕ) (set set' : List ℕ) → i < word_bits * length set → set' ≡ marked (test i) set i
    → Collected test base i set → Collected test base (i + 1) set'
collected-next test base i set set' l e h f = ap (λ a. has a f) e ∙ has-marked (test i) set i f l ∙ ap (◌⊕◌ (test i && eqb f i)) (h f) ∙ elim (order f i) [
  | less k ↦ rw (ne_eqb f i (omega arith), and-false (test i), lt-ltb f i k, lt-ltb f (i + 1) (omega arith))
  | same q ↦ rw (q, eq-eqb i i refl, and-true (test i), le-ltb i i (omega arith), lt-ltb i (i + 1) (omega arith))
  | more k ↦ rw (ne_eqb f i (omega arith), and-false (test i), le-ltb f i (omega arith), le-ltb f (i + 1) (omega arith))
]

-- ---- the witness

-- The words of the witness of the least number that is left, before the further words of a room; the room as it was where nothing is left.
unfoldable pub found : ℕ → Slots → Set → List ℕ → List ℕ
found n slots left room = cond (ltb (lead n left) n) (packed n (wit slots (lead n left)) ++ drop (words_for n) room) room

-- One feature put into words that hold nothing.
pub has_one : (k m f : ℕ) → m < word_bits * length {A = ℕ} (replicate k 0) → has (toggled (replicate k 0) m) f ≡ eqb f m
has_one k m f l = has-toggled (replicate k 0) m f l ∙ rw (has-none k f) (xor-false (eqb f m))

-- The features up to m whose slots have m, and m itself, are the witness.
pub witness-words : (n m w : ℕ) (area words : List ℕ) → Reduced n (slots_in n area) → m < n → w ≡ words_for n → length words ≡ w → Words words
    → ((f : ℕ) → has words f ≡ (ltb f (m + 1) && has (slot_at w area f) m) ⊕ eqb f m) → words ≡ packed n (wit (slots_in n area) m)
unfolding wit
witness-words n m w area words R l q e h each = words_of n (wit (slots_in n area) m) words (e ∙ q) h (λ f k. wit-past R m f (omega arith)) (λ f. each f ∙ elim (test (ltb f (m + 1))) [
  | on t ↦ rw (t, q, ← slot_has n f area m (omega (arith, ltb-true f (m + 1) t))) (xor_comm (slots_in n area f m) (eqb f m))
  | off t ↦ rw (t, R.low f m (omega (arith, ltb-false f (m + 1) t))) (sym (xor-false (eqb f m)))
])

-- The words at the front of words.
pub words-front : (l m : List ℕ) → Words (l ++ m) → Words l
words-front l m h i k = rw (← get_or-append l m 0 i k) (h i (omega (arith, length-append l m)))

module _ (n r : ℕ) (slots : Slots) (left room : List ℕ) (h : Next (has left) (word_bits * length left) 0 r) where
  pub found_none : n ≤ r → (false ≡ ltb (lead n (has left)) n) × (room ≡ found n slots (has left) room)
  unfolding found
  found_none l = let e : lead n (has left) ≡ n = lead-none n (has left) (λ f k. h.clear f (omega arith) (omega arith)) in
      let t : ltb n n ≡ false = le-ltb n n (omega arith) in (rw (e, t), rw (e, t))

  pub found_some : (words : List ℕ) → r < n → length left ≡ words_for n → words ≡ packed n (wit slots r)
      → (true ≡ ltb (lead n (has left)) n) × (words ++ drop (length left) room ≡ found n slots (has left) room)
  unfolding found
  found_some words l q s = let e : lead n (has left) ≡ r = lead-least n r (has left) l (next-least (has left) (word_bits * length left) r h (omega arith)) in
      let t : ltb r n ≡ true = lt-ltb r n l in (rw (e, t), rw (e, t, s, q))

-- What toggling a feature and adding words do to a list of words, and what the list holds afterwards.
use Rattle.std.specs.Prelude.{ℕ, zero, suc, ◌*◌, ◌/◌, ◌%◌, ◌^◌, ◌<◌, ◌≡◌, refl, ◌≢◌, true, false, ◌||◌, List, [], ◌∷◌, eqb, length, get_or, set}
use Rattle.std.proofs.Common.{ap, sym, ◌∙◌, arith, length-set, get_or-set_same, get_or-set_other, eq-eqb, ne_eqb, eqb-true}
use Rattle.std.proofs.Math.Pow.{pow-lt}
use Rattle.std.specs.Int.Bits.{bit_xor}
use Rattle.std.proofs.lemmas.Nat.{xor_lt}
use Rattle.std.proofs.lemmas.Bool.{eqb-false}
use Rattle.meaning.specs.Sets.{◌⊕◌}
use Rattle.meaning.specs.Limits.{word_bits}
use Rattle.meaning.specs.Workspace.{bit, has}
use Rattle.theory.specs.Truth.{on, off, test, xor_comm}
use Rattle.theory.specs.Words.{Words}
use Rattle.words.specs.Bits.{bit-xor, bit-power}

-- The words with the bit of one feature changed.
unfoldable pub toggled : List ℕ → ℕ → List ℕ
toggled l f = set l (f / word_bits) (bit_xor (get_or l (f / word_bits) 0) (2 ^ (f % word_bits)))

-- Each word of a list joined with the word at its place in another.
unfoldable pub joined : (ℕ → ℕ → ℕ) → List ℕ → List ℕ → List ℕ
joined op [] m = []
joined op (x ∷ l) [] = x ∷ l
joined op (x ∷ l) (y ∷ m) = op x y ∷ joined op l m

-- By exclusive or: the sum of two sets.
abbrev pub summed : List ℕ → List ℕ → List ℕ
summed l m = joined bit_xor l m

-- ---- one feature toggled

pub length-toggled : (l : List ℕ) (f : ℕ) → length (toggled l f) ≡ length l
unfolding toggled
length-toggled l f = length-set l _ _

toggled-word : (l : List ℕ) (f : ℕ) → f / word_bits < length l → get_or (toggled l f) (f / word_bits) 0 ≡ bit_xor (get_or l (f / word_bits) 0) (2 ^ (f % word_bits))
unfolding toggled
toggled-word l f h = get_or-set_same l (f / word_bits) _ 0 h

toggled-other : (l : List ℕ) (f i : ℕ) → i ≢ f / word_bits → get_or (toggled l f) i 0 ≡ get_or l i 0
unfolding toggled
toggled-other l f i d = get_or-set_other l (f / word_bits) i _ 0 d

pub words-toggled : (l : List ℕ) (f : ℕ) → Words l → Words (toggled l f)
words-toggled l f w i k = let j : i < length l = rw (length-toggled l f) at k in elim (test (eqb i (f / 64))) [
  | on e ↦ here (eqb-true i (f / 64) e) j
  | off e ↦ rw (toggled-other l f i (eqb-false i (f / 64) e)) (w i j)
]
  where
    here : i ≡ f / 64 → i < length l → get_or (toggled l f) i 0 < 2 ^ word_bits
    here q j = rw (q, toggled-word l f (omega arith)) (xor_lt word_bits _ _ (w (f / 64) (omega arith)) (pow-lt {j = word_bits} (omega arith)))

pub has-toggled : (l : List ℕ) (f g : ℕ) → f < word_bits * length l → has (toggled l f) g ≡ eqb g f ⊕ has l g
unfolding has
has-toggled l f g h = elim (test (eqb (g / 64) (f / 64))) [
  | on e ↦ here (eqb-true (g / 64) (f / 64) e)
  | off e ↦ let d : g / 64 ≢ f / 64 = eqb-false (g / 64) (f / 64) e in rw (toggled-other l f (g / 64) d, ne_eqb g f (omega arith))
]
  where
    bits : g / 64 ≡ f / 64 → eqb (g % 64) (f % 64) ≡ eqb g f
    bits q = elim (test (eqb g f)) [
      | on e ↦ let p : g ≡ f = eqb-true g f e in rw e (eq-eqb (g % 64) (f % 64) (omega arith))
      | off e ↦ let d : g ≢ f = eqb-false g f e in rw e (ne_eqb (g % 64) (f % 64) (omega arith))
    ]

    here : g / 64 ≡ f / 64 → bit (get_or (toggled l f) (g / 64) 0) (g % 64) ≡ eqb g f ⊕ bit (get_or l (g / 64) 0) (g % 64)
    here q = rw (q, toggled-word l f (omega arith), ← bits q, ← bit-power (f % 64) (g % 64))
        (bit-xor (get_or l (f / 64) 0) (2 ^ (f % 64)) (g % 64) ∙ xor_comm (bit (get_or l (f / 64) 0) (g % 64)) (bit (2 ^ (f % 64)) (g % 64)))

-- ---- one feature put in

-- Words with one member more, if it was none before.
pub record Includes (before : List ℕ) (f : ℕ) (now : List ℕ) : Type 0 where
  pub long : length now ≡ length before
  pub each : (g : ℕ) → has now g ≡ (eqb g f || has before g)

pub included-already : (l : List ℕ) (f : ℕ) → has l f ≡ true → Includes l f l
included-already l f e = record {
  long = refl;
  each = λ g. elim (test (eqb g f)) [ on q ↦ rw (q, eqb-true g f q) e | off q ↦ rw q refl ];
}

pub included-now : (l : List ℕ) (f : ℕ) (now : List ℕ) → has l f ≡ false → f < word_bits * length l → now ≡ toggled l f → Includes l f now
included-now l f now e h t = record {
  long = ap length t ∙ length-toggled l f;
  each = λ g. ap (λ m. has m g) t ∙ has-toggled l f g h ∙ elim (test (eqb g f)) [ on q ↦ rw (q, eqb-true g f q, e) refl | off q ↦ rw q refl ];
}

-- ---- words joined

pub length-joined : (op : ℕ → ℕ → ℕ) (l m : List ℕ) → length (joined op l m) ≡ length l
unfolding joined
length-joined op [] m = refl
length-joined op (x ∷ l) [] = refl
length-joined op (x ∷ l) (y ∷ m) = ap suc (length-joined op l m)

pub get_d-joined : (op : ℕ → ℕ → ℕ) → op 0 0 ≡ 0 → (l m : List ℕ) (i : ℕ) → length l ≡ length m → get_or (joined op l m) i 0 ≡ op (get_or l i 0) (get_or m i 0)
unfolding joined
get_d-joined op none [] [] i e = sym none
get_d-joined op none [] (y ∷ m) i e = absurd (omega arith)
get_d-joined op none (x ∷ l) [] i e = absurd (omega arith)
get_d-joined op none (x ∷ l) (y ∷ m) zero e = refl
get_d-joined op none (x ∷ l) (y ∷ m) (suc i) e = get_d-joined op none l m i (omega arith)

pub length-summed : (l m : List ℕ) → length (summed l m) ≡ length l
length-summed = length-joined bit_xor

pub get_d-summed : (l m : List ℕ) (i : ℕ) → length l ≡ length m → get_or (summed l m) i 0 ≡ bit_xor (get_or l i 0) (get_or m i 0)
get_d-summed = get_d-joined bit_xor refl

pub has-summed : (l m : List ℕ) (g : ℕ) → length l ≡ length m → has (summed l m) g ≡ has l g ⊕ has m g
unfolding has
has-summed l m g e = rw (get_d-summed l m (g / 64) e) (bit-xor (get_or l (g / 64) 0) (get_or m (g / 64) 0) (g % 64))

-- The marks: what is judged of them and of the sizes, element by element, and the goal values that they name.
use Prim.Native.Nat.{ℕ, zero, suc, ◌+◌, ◌<◌, ◌≤◌}
use Rattle.std.specs.Prelude.{◌≡◌, Bool, true, ◌&&◌, cond, eqb, leb, length, set, take, drop, replicate}
use Rattle.std.specs.List.{list_all}
use Rattle.std.proofs.Math.Path.{refl, sym, ap}
use Rattle.std.proofs.Common.{◌∙◌, inl, inr, arith, length-append, drop_of_length-le, drop-cons, length-take-le, take_at, eqb-true, lt-ltb, le-ltb, leb-true, leb-false}
use mathlib.Core.List.Memᴰ.{append_cases}
use mathlib.Core.List.Memᴰ.{eq_of_singleton}
use mathlib.Core.List.Memᴰ.{head as here}
use mathlib.Core.List.Memᴰ.{not-nil}
use mathlib.Core.List.Memᴰ.{tail as there}
use mathlib.Core.List.{List, [], ◌∷◌, ◌++◌, append-nil, append_assoc, Memᴰ as In}
use Rattle.std.proofs.Math.Numerals.{add-one}
use Rattle.std.proofs.Math.ListN.{get_or}
use Rattle.std.proofs.lemmas.List.{set_split}
use Rattle.std.proofs.lemmas.Bool.{eqb-false}
use Rattle.meaning.specs.Sets.{all_of}
use Rattle.meaning.specs.Limits.{most_partial_size, most_features}
use Rattle.meaning.specs.Task.{Task}
use Rattle.meaning.specs.Feature.{features}
use Rattle.meaning.specs.Number.{Range, Outgrown}
use Rattle.meaning.specs.Answer.{Judged, fine, need, values_judged}
use Rattle.meaning.specs.Partial.{built_sizes, marks_judged}
use Rattle.theory.specs.Truth.{on, off, test}
use Rattle.theory.specs.Search.{all-at}
use Rattle.theory.specs.Flat.{in-when, get_d-in}

-- ---- tests of each element

abbrev pub are_marks : List ℕ → Bool
are_marks marks = list_all (λ m. leb m 1) marks

-- Each size has room for "unknown".
abbrev pub are_roomy : List ℕ → Bool
are_roomy sizes = list_all (λ d. leb d most_partial_size) sizes

-- The meaning's test of each element.
all-listed : {A : Type 0} (p : A → Bool) (l : List A) → list_all p l ≡ all_of p l
unfolding all_of
all-listed p [] = refl
all-listed p (a ∷ l) = ap (λ b. p a && b) (all-listed p l)

-- ---- what is judged

-- Marks, one for each of so many variables.
pub record Marked (v : ℕ) (marks : List ℕ) : Type 0 where
  pub long : length marks ≡ v
  pub each : (i : ℕ) → i < length marks → get_or marks i 0 < 2

pub are-marked : (v : ℕ) (marks : List ℕ) → length marks ≡ v → are_marks marks ≡ true → Marked v marks
are-marked v marks e h = record { long = e; each = λ i l. omega (arith, leb-true _ _ (all-at (λ m. leb m 1) marks (sym (all-listed _ marks) ∙ h) (get_or marks i 0) (get_d-in marks i 0 l))) }

pub are-roomy : (sizes : List ℕ) → are_roomy sizes ≡ true → (i : ℕ) → i < length sizes → get_or sizes i 0 ≤ most_partial_size
are-roomy sizes h i l = leb-true _ _ (all-at (λ d. leb d most_partial_size) sizes (sym (all-listed _ sizes) ∙ h) (get_or sizes i 0) (get_d-in sizes i 0 l))

-- Number, marks, sizes, and N with "unknown".
unfoldable pub judged_by : List ℕ → List ℕ → Judged
judged_by sizes marks =
    need (eqb (length marks) (length sizes)) Range
    (need (are_marks marks) Range (need (are_roomy sizes && leb (features (built_sizes sizes)) most_features) Outgrown fine))

values-marks : (v : ℕ) (marks : List ℕ) (rest : Judged) → length marks ≡ v → values_judged (replicate v 2) marks rest ≡ need (are_marks marks) Range rest
unfolding values_judged
values-marks zero [] rest e = refl
values-marks zero (m ∷ ms) rest e = absurd (omega arith)
values-marks (suc v) [] rest e = absurd (omega arith)
values-marks (suc v) (m ∷ ms) rest e = elim (test (leb m 1)) [
  | on q ↦ rw (lt-ltb m 2 (omega (arith, leb-true m 1 q)), q) (values-marks v ms rest (omega arith))
  | off q ↦ rw (le-ltb m 2 (omega (arith, leb-false m 1 q)), q) refl
]

pub marks-judged : (T : Task) (marks : List ℕ) → marks_judged T marks ≡ judged_by T.sizes marks
unfolding marks_judged judged_by
marks-judged T marks = elim (test (eqb (length marks) (length T.sizes))) [
  | on q ↦ rw (q, all-listed (λ d. leb d most_partial_size) T.sizes) (values-marks (length T.sizes) marks _ (eqb-true _ _ q))
  | off q ↦ rw q refl
]

-- ---- the goal values that are named

unfoldable pub picked : List ℕ → List ℕ → List ℕ
picked [] goal = []
picked (m ∷ ms) [] = []
picked (m ∷ ms) (g ∷ gs) = cond (eqb m 1) (g ∷ []) [] ++ picked ms gs

-- So many values stand in front of a table, and those that are left follow.
abbrev pub PickedTo : ℕ → List ℕ → List ℕ → ℕ → List ℕ → Type 0
PickedTo i marks goal count table = picked marks goal ≡ take count table ++ picked (drop i marks) (drop i goal)

module _ (marks goal : List ℕ) (i count : ℕ) (table : List ℕ) where
  -- A value is written behind them, and kept where its mark says so.
  pub picked_next : Marked (length goal) marks → i < length marks → count < length table → PickedTo i marks goal count table
      → PickedTo (i + 1) marks goal (count + get_or marks i 0) (set table count (get_or goal i 0))
  unfolding picked
  picked_next ok h room e = e ∙ ap (◌++◌ (take count table)) split ∙ sym (append_assoc (take count table) _ _) ∙ ap (λ l. l ++ picked (drop (i + 1) marks) (drop (i + 1) goal)) (sym kept)
    where
      m : ℕ
      m = get_or marks i 0

      g : ℕ
      g = get_or goal i 0

      split : picked (drop i marks) (drop i goal) ≡ cond (eqb m 1) (g ∷ []) [] ++ picked (drop (i + 1) marks) (drop (i + 1) goal)
      split = rw (drop-cons marks i 0 h, drop-cons goal i 0 (omega (arith, ok.long)), add-one i) refl

      long : length (take count table) ≡ count
      long = length-take-le count table (omega arith)

      kept : take (count + m) (set table count g) ≡ take count table ++ cond (eqb m 1) (g ∷ []) []
      kept = elim (test (eqb m 1)) [
        | on q ↦ rw (q, set_split table count g room) (ap (take (count + m)) (sym (append_assoc (take count table) (g ∷ []) (drop (suc count) table)))
            ∙ take_at (take count table ++ (g ∷ [])) (drop (suc count) table) (count + m) (omega (arith, length-append (take count table) (g ∷ []), long, eqb-true m 1 q)))
        | off q ↦ let none : count + m ≡ count = omega (arith, ok.each i h, eqb-false m 1 q) in
            rw (q, none, set_split table count g room) (take_at (take count table) (g ∷ drop (suc count) table) count long ∙ sym (append-nil (take count table)))
      ]

  pub picked_all : length marks ≤ i → PickedTo i marks goal count table → take count table ≡ picked marks goal
  unfolding picked
  picked_all h e = sym (e ∙ rw (drop_of_length-le marks {i = i} h) (append-nil (take count table)))

pub picked-in : (marks goal : List ℕ) (a : ℕ) → In a (picked marks goal) → In a goal
unfolding picked
picked-in [] goal a m = absurd (not-nil m)
picked-in (k ∷ ks) [] a m = absurd (not-nil m)
picked-in (k ∷ ks) (g ∷ gs) a m = elim (append_cases (cond (eqb k 1) (g ∷ []) []) m) [
  | inl n ↦ here (eq_of_singleton (in-when (eqb k 1) (g ∷ []) n).1)
  | inr n ↦ there (picked-in ks gs a n)
]

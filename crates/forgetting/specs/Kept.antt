-- The forgetting operators that are kept, in the order in which they are found: laws for a walk over them.
use Rattle.std.specs.Prelude.{ℕ, zero, suc, ◌+◌, ◌-◌, ◌<◌, ◌≤◌, ◌≡◌, Bool, cond, get_or, Option, Some, None}
use Rattle.std.proofs.Math.Path.{refl, sym, ap}
use Rattle.std.proofs.Common.{ap₂, ◌∙◌, add-zero, add-suc, length-append}
use Rattle.std.proofs.Math.Bool.{true, false}
use Rattle.std.specs.List.{range_with_len, AllWithin, HoldsAt}
use Rattle.std.specs.Option.{MatchOption}
use Rattle.std.proofs.lemmas.List.FromFn.{length-range_with_len, get_or-range_with_len}
use mathlib.Core.List.{List, [], ◌∷◌, ◌++◌, append_assoc, append-nil}
use native.Mathlib.Omega.{arith}
use Rattle.std.proofs.Math.Numerals.{add-one}
use Rattle.std.proofs.Math.ListN.{length, get_or-eq_default}
use Rattle.std.proofs.Math.Seq.{get_or-append_seam}
use Rattle.meaning.specs.Sets.{Set, flat, listed}
use Rattle.meaning.specs.Limits.{most_size, most_atoms}
use Rattle.meaning.specs.Task.{Operator, IsOperator, size}
use Rattle.meaning.specs.File.{InLimits}
use Rattle.meaning.specs.Partial.{Partial, Ordered, forgettings, built_sizes, built_pairs, built_task}
use Rattle.theory.specs.Truth.{less, same, more, order}
use Rattle.theory.specs.Flat.{flat-cong, flat-few}
use Rattle.theory.specs.Given.{entry_of}
use Rattle.theory.specs.PartialPairs.{built-length, built-size}
use Rattle.theory.specs.PartialParts.{out_for}
use Rattle.pairs.specs.Ready.{Listed, Ready, ready-is}
use Rattle.forgetting.specs.declared.Kept.{Kept}
use Rattle.forgetting.specs.Out.{out_by, out-by}

-- What is made for the numbers before one is the beginning of all.
flat-split : {A : Type 0} (n : ℕ) (g : ℕ → List A) (i : ℕ) → i < n → (rest : List A) × (flat n g ≡ flat i g ++ (g i ++ rest))
unfolding flat
flat-split zero g i l = absurd (omega arith)
flat-split (suc n) g i l = elim (order i n) [
  | less k ↦ let (rest, e) = flat-split n g i k in (rest ++ g n, rw e (append_assoc (flat i g) (g i ++ rest) (g n) ∙ ap (◌++◌ (flat i g)) (append_assoc (g i) rest (g n))))
  | same q ↦ ([], rw q (ap (◌++◌ (flat n g)) (sym (append-nil (g n)))))
  | more k ↦ absurd (omega arith)
]

module _ (sizes : List ℕ) where
  -- How many values a variable has without "unknown", which is the number of "unknown" itself.
  abbrev pub unknown_of : ℕ → ℕ
  unknown_of i = size sizes i - 1

  abbrev pub forgotten_by : ℕ → ℕ → Operator
  forgotten_by i x = record { variable = i; before = x; after = unknown_of i } ∷ []

  module _ (out : ℕ → ℕ → Bool) where
    unfoldable pub kept_one : ℕ → ℕ → List Operator
    kept_one i x = cond (out i x) [] (forgotten_by i x ∷ [])

    -- All values of a variable.
    unfoldable pub kept_row : ℕ → List Operator
    kept_row i = flat (unknown_of i) (kept_one i)

    unfoldable pub kept_all : List Operator
    kept_all = flat (length sizes) kept_row

    -- Those before value x of variable i.
    unfoldable pub kept_before : ℕ → ℕ → List Operator
    kept_before i x = flat i kept_row ++ flat x (kept_one i)

    -- Those before one that is kept: all of them, where there is none.
    abbrev pub passed_by : Option Kept → List Operator
    passed_by (Some kept) = kept_before kept.variable kept.value
    passed_by None = kept_all

    -- One that is kept, or none.
    abbrev pub There : Option Kept → Type 0
    There (Some kept) = (kept.variable < length sizes) × (kept.value < unknown_of kept.variable) × (out kept.variable kept.value ≡ false)
    There None = Unit

    -- The first that is kept from value x of variable i on, where there is one.
    pub record Found (i x : ℕ) (r : Option Kept) : Type 0 where
      pub same : passed_by r ≡ kept_before i x
      pub there : There r

    -- The first value of variable i that is kept from x on, where there is one.
    abbrev pub FoundIn : ℕ → ℕ → Option ℕ → Type 0
    FoundIn i x (Some y) = (kept_before i y ≡ kept_before i x) × (y < unknown_of i) × (out i y ≡ false)
    FoundIn i x None = kept_before i (unknown_of i) ≡ kept_before i x

    -- ---- a walk from one to the next

    pub kept-none : kept_before 0 0 ≡ []
    unfolding kept_before flat
    kept-none = refl

    one_kept : (i x : ℕ) → out i x ≡ false → kept_one i x ≡ forgotten_by i x ∷ []
    unfolding kept_one
    one_kept i x e = rw e refl

    -- One that is left out, one that is kept, and the end of a variable's values.
    pub kept-skip : (i x : ℕ) → out i x ≡ true → kept_before i (x + 1) ≡ kept_before i x
    unfolding kept_before flat kept_one
    kept-skip i x e = rw (add-one, e) (ap (◌++◌ (flat i kept_row)) (append-nil (flat x (kept_one i))))

    kept_more : (i x : ℕ) → out i x ≡ false → kept_before i (x + 1) ≡ kept_before i x ++ (forgotten_by i x ∷ [])
    unfolding kept_before flat kept_one
    kept_more i x e = rw (add-one, e) (sym (append_assoc (flat i kept_row) (flat x (kept_one i)) _))

    kept-turn : (i : ℕ) → kept_before i (unknown_of i) ≡ kept_before (i + 1) 0
    unfolding kept_before flat kept_row
    kept-turn i = rw add-one (sym (append-nil _))

    kept-last : kept_before (length sizes) 0 ≡ kept_all
    unfolding kept_before kept_all flat
    kept-last = append-nil _

    -- What is before a place that is kept is the beginning of all.
    kept-split : (i x : ℕ) → i < length sizes → x < unknown_of i → out i x ≡ false → (rest : List Operator) × (kept_all ≡ kept_before i x ++ (forgotten_by i x ∷ rest))
    unfolding kept_before kept_all kept_row
    kept-split i x l h e =
        let (later, p) = flat-split (length sizes) kept_row i l in
        let (behind, q) = flat-split (unknown_of i) (kept_one i) x h in
        (behind ++ later, p ∙ ap (λ row. flat i kept_row ++ (row ++ later)) (q ∙ ap (λ one. flat x (kept_one i) ++ (one ++ behind)) (one_kept i x e)) ∙ sym (simp append_assoc))

    pub kept-few : InLimits sizes → length kept_all ≤ most_atoms
    unfolding kept_all kept_row kept_one
    kept-few limits = omega (
      arith,
      limits.variables,
      flat-few (length sizes) most_size kept_row (λ i l.
          omega (arith, flat-few (unknown_of i) 1 (kept_one i) (λ x h. one (out i x) (forgotten_by i x)), limits.each i l)),
    )
      where
        one : (t : Bool) (o : Operator) → length (cond t [] (o ∷ [])) ≤ 1
        one true o = omega arith
        one false o = omega arith

    -- ---- a search for the next one

    -- The values of variable i from x on and before y are left out.
    pub left-out : (i x n : ℕ) → ((k : ℕ) → k < n → out i (x + k) ≡ true) → kept_before i (x + n) ≡ kept_before i x
    left-out i x zero h = rw add-zero refl
    left-out i x (suc n) h = rw add-suc (rw (← add-one) (kept-skip i (x + n) (h n (omega arith)) ∙ left-out i x n (λ k l. h k (omega arith))))

    -- The first that is kept of some values, or all are left out.
    pub found-first : (i x y : ℕ) (r : Option ℕ) → y ≡ unknown_of i → x ≤ y → let values = range_with_len x (y - x) in
        MatchOption r (AllWithin (λ z. out i z ≡ true) values 0 (length values))
        (λ v. (out i v ≡ false) × (k : ℕ) × (k < length values) × HoldsAt (λ z. z ≡ v) values k × AllWithin (λ z. out i z ≡ true) values 0 k)
        → FoundIn i x r
    found-first i x y (Some v) e l (kept, k, m, h, before) =
        let inside : k < y - x = omega (arith, length-range_with_len x (y - x)) in
        let place : v ≡ x + k = sym (h 0) ∙ get_or-range_with_len x (y - x) k 0 inside in
        (rw place (left-out i x k (λ j p. rw (get_or-range_with_len x (y - x) j 0 (omega arith)) at (before j 0 (omega arith) p))), omega arith, kept)
    found-first i x y None e l none = let whole : x + (y - x) ≡ unknown_of i = omega arith in
        rw (← whole) (left-out i x (y - x) (λ j p. rw (get_or-range_with_len x (y - x) j 0 p) at (none j 0 (omega arith) (omega (arith, length-range_with_len x (y - x))))))

    -- No value of variable i is kept from x on; and none of the variables.
    pub passed-none : (i x : ℕ) → FoundIn i x None → kept_before (i + 1) 0 ≡ kept_before i x
    passed-none i x none = sym (kept-turn i) ∙ none

    pub passed-all : (i x j y : ℕ) → j ≡ length sizes → y ≤ unknown_of j → kept_before j y ≡ kept_before i x → Found i x None
    passed-all i x j y e h before = let first : y ≡ 0 = omega (arith, get_or-eq_default sizes 0 {n = j}) in
        record { same = sym kept-last ∙ sym (ap₂ kept_before e first) ∙ before; there = tt }

    -- ---- what was found

    module _ (i x : ℕ) (kept : Kept) (found : Found i x (Some kept)) where
      pub found-more : kept_before kept.variable (kept.value + 1) ≡ kept_before i x ++ (forgotten_by kept.variable kept.value ∷ [])
      found-more = kept_more kept.variable kept.value found.there.2 ∙ ap (λ os. os ++ (forgotten_by kept.variable kept.value ∷ [])) found.same

      pub found-split : (rest : List Operator) × (kept_all ≡ kept_before i x ++ (forgotten_by kept.variable kept.value ∷ rest))
      found-split =
          let (rest, e) = kept-split kept.variable kept.value found.there.0 found.there.1 found.there.2 in
          (rest, e ∙ ap (λ os. os ++ (forgotten_by kept.variable kept.value ∷ rest)) found.same)

      -- As a count: the next one, and one that is there.
      pub found-next : length (kept_before kept.variable (kept.value + 1)) ≡ length (kept_before i x) + 1
      found-next = ap length found-more ∙ length-append (kept_before i x) _

      pub found_below : length (kept_before i x) < length kept_all
      found_below = let (rest, e) = found-split in omega (arith, ap length e ∙ length-append (kept_before i x) (forgotten_by kept.variable kept.value ∷ rest))

    -- Where there is none, all are before.
    pub found-end : (i x : ℕ) → Found i x None → kept_before i x ≡ kept_all
    found-end i x found = sym found.same

    -- ---- a walk that counts

    -- It stands at one that is kept, or at the end, and k come before that.
    pub record Stands (r : Option Kept) (k : ℕ) : Type 0 where
      pub there : There r
      pub before : k ≡ length (passed_by r)

    pub stands-first : (r : Option Kept) → Found 0 0 r → Stands r 0
    stands-first r found = record { there = found.there; before = sym (ap length (found.same ∙ kept-none)) }

    -- At the end all are counted.
    pub stands-end : (k : ℕ) → Stands None k → k ≡ length kept_all
    stands-end k stands = stands.before

    module _ (kept : Kept) (k : ℕ) (stands : Stands (Some kept) k) where
      -- It is found from its own place on.
      pub stands-found : Found kept.variable kept.value (Some kept)
      stands-found = record { same = refl; there = stands.there }

      pub stands-next : (r : Option Kept) → Found kept.variable (kept.value + 1) r → Stands r (k + 1)
      stands-next r found = record {
        there = found.there;
        before = ap (λ n. n + 1) stands.before ∙ sym (ap length found.same ∙ found-next _ _ kept stands-found);
      }

      pub stands-below : k < length kept_all
      stands-below = omega (arith, stands.before, found_below _ _ kept stands-found)

      pub stands-few : InLimits sizes → k < most_atoms
      stands-few limits = omega (arith, stands-below, kept-few limits)

      -- It is the one at place k.
      pub stands_at : get_or kept_all k [] ≡ forgotten_by kept.variable kept.value
      stands_at = let (rest, e) = found-split _ _ kept stands-found in ap₂ (λ l n. get_or l n []) e stands.before ∙ get_or-append_seam (kept_before kept.variable kept.value) _ rest []

  -- ---- as operators

  module _ (i x : ℕ) (l : i < length sizes) (h : x < unknown_of i) where
    pub kept-operator : IsOperator sizes (forgotten_by i x)
    kept-operator = record { filled = omega arith; entries = (omega arith, l, omega arith, omega arith, tt) }

    pub kept-ready : (pairs : List ℕ) → Listed sizes pairs → Ready sizes pairs (forgotten_by i x)
    kept-ready pairs listed = ready-is listed kept-operator

-- Those that a header keeps.
abbrev pub kept_in : List ℕ → Set → List ℕ → Bool → List Operator
kept_in sizes pairs goal lean = kept_all sizes (out_by sizes pairs goal lean)

-- On the built task's header they are the request's.
pub kept-forgettings : (P : Partial) (ok : Ordered P) (lean : Bool)
    → kept_in (built_sizes P.sizes) (listed (built_pairs P.sizes (listed P.pairs))) P.goal lean ≡ forgettings P.sizes (out_for lean P)
unfolding kept_all kept_row kept_one forgettings
kept-forgettings P ok lean = rw (built-length P.sizes) (flat-cong (length P.sizes) _ _ (λ i l.
    let d : size (built_sizes P.sizes) i - 1 ≡ size P.sizes i = omega (arith, built-size P.sizes i l) in
    rw d (flat-cong (size P.sizes i) _ _ (λ x h. rw (out-by P ok lean i x l h) (ap (λ u. cond (out_for lean P i x) [] ((entry_of i x u ∷ []) ∷ [])) d)))))

-- So the built task's operators are the file's, and then those that its header keeps.
pub built-operators : (P : Partial) (ok : Ordered P) (lean : Bool) → let T = built_task P (out_for lean P) in T.operators ≡ P.operators ++ kept_in T.sizes (listed T.pairs) T.goal lean
unfolding built_task
built-operators P ok lean = ap (◌++◌ P.operators) (sym (kept-forgettings P ok lean))

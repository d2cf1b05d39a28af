-- The first operator that weights do not allow: of a file, and of those that follow the file's.
use Rattle.std.specs.Prelude.{ℕ, zero, suc, ◌+◌, ◌-◌, ◌<◌, ◌≡◌, true, false, cond, ltb, length, get_or, Option, Some, None}
use Rattle.std.proofs.Math.Path.{refl, ap}
use Rattle.std.proofs.Common.{◌∙◌, arith, length-append, get_or-append-add, ltb-true, ltb-false}
use mathlib.Core.List.{List, [], ◌∷◌, ◌++◌, foldl, foldl-append}
use Rattle.std.proofs.Math.Nat.{zero-add}
use Rattle.std.proofs.Math.ListN.{get_or-append}
use Rattle.meaning.specs.Sets.{Set}
use Rattle.meaning.specs.Task.{Operator}
use Rattle.meaning.specs.Number.{got}
use Rattle.meaning.specs.File.{operators_of}
use Rattle.theory.specs.Truth.{on, off, test}
use Rattle.theory.specs.Rows.{allowed}
use Rattle.operator.specs.Fold.{walked, walk-all}

-- A search for that operator: it has passed so many that are allowed, or found one at a place.
pub data Search : Type 0 where
  passed : ℕ → Search
  found : ℕ → Search

abbrev pub searched : List ℕ → Set → Set → Search → Operator → Search
searched sizes pairs weights (passed k) o = cond (allowed sizes pairs weights o) (passed (k + 1)) (found k)
searched sizes pairs weights (found j) o = found j

-- The place that was found, where one was.
abbrev pub place_found : Search → Option ℕ
place_found (passed k) = None
place_found (found j) = Some j

-- The first of so many operators that the weights do not allow, where there is one; what cannot be read is allowed.
abbrev pub breaking_from : List ℕ → Set → Set → ℕ → List ℕ → ℕ → Option ℕ
breaking_from sizes pairs weights count bytes at = place_found (walked (searched sizes pairs weights) sizes count bytes at (passed 0))

-- The first of a list.
unfoldable pub breaking_among : List ℕ → Set → Set → List Operator → Option ℕ
breaking_among sizes pairs weights os = place_found (foldl (searched sizes pairs weights) (passed 0) os)

-- A place behind so many operators; and the place among these, or else that one.
abbrev pub behind : ℕ → Option ℕ → Option ℕ
behind count (Some k) = Some (count + k)
behind count None = None

abbrev pub place_then : ℕ → Option ℕ → Option ℕ → Option ℕ
place_then count (Some j) r = Some j
place_then count None r = behind count r

-- ---- the turns of a search

module _ (sizes : List ℕ) (pairs weights : Set) (k : ℕ) (o : Operator) where
  pub search-passes : allowed sizes pairs weights o ≡ true → searched sizes pairs weights (passed k) o ≡ passed (k + 1)
  search-passes e = rw e

  pub search-finds : allowed sizes pairs weights o ≡ false → searched sizes pairs weights (passed k) o ≡ found k
  search-finds e = rw e

-- ---- where the operators were read

-- The place is that of the first operator of a list that is not allowed; without one all are allowed.
abbrev pub FirstBreaking : List ℕ → Set → Set → List Operator → Option ℕ → Type 0
FirstBreaking sizes pairs weights operators (Some j) =
    (j < length operators) × ((i : ℕ) → i < j → allowed sizes pairs weights (get_or operators i []) ≡ true) × (allowed sizes pairs weights (get_or operators j []) ≡ false)
FirstBreaking sizes pairs weights operators None = (i : ℕ) → i < length operators → allowed sizes pairs weights (get_or operators i []) ≡ true

module _ (sizes : List ℕ) (pairs weights : Set) where
  -- An operator that is allowed comes before all that are allowed up to a place.
  before : (o : Operator) (os : List Operator) (n : ℕ) → allowed sizes pairs weights o ≡ true → ((i : ℕ) → i < n → allowed sizes pairs weights (get_or os i []) ≡ true)
      → (i : ℕ) → i < suc n → allowed sizes pairs weights (get_or (o ∷ os) i []) ≡ true
  before o os n e h zero l = e
  before o os n e h (suc i) l = h i (omega arith)

  fold-found : (j : ℕ) (os : List Operator) → foldl (searched sizes pairs weights) (found j) os ≡ found j
  fold-found j [] = refl
  fold-found j (o ∷ os) = fold-found j os

  -- A search that has passed k operators finds the first one of those that follow.
  fold-first : (k : ℕ) (os : List Operator)
      → (r : Option ℕ) × (place_found (foldl (searched sizes pairs weights) (passed k) os) ≡ behind k r) × FirstBreaking sizes pairs weights os r
  fold-first k [] = (None, refl, λ i l. absurd (omega arith))
  fold-first k (o ∷ os) = elim (test (allowed sizes pairs weights o)) [
    | on a ↦ let (r, place, first) = fold-first (k + 1) os in rw a (later a r place first)
    | off a ↦ (Some 0, rw a (ap place_found (fold-found k os) ∙ ap Some (omega arith)), (omega arith, λ i l. absurd (omega arith), a))
  ]
    where
      later : allowed sizes pairs weights o ≡ true → (r : Option ℕ) → place_found (foldl (searched sizes pairs weights) (passed (k + 1)) os) ≡ behind (k + 1) r
          → FirstBreaking sizes pairs weights os r
          → (s : Option ℕ) × (place_found (foldl (searched sizes pairs weights) (passed (k + 1)) os) ≡ behind k s) × FirstBreaking sizes pairs weights (o ∷ os) s
      later a (Some j) place first = (Some (suc j), place ∙ ap Some (omega arith), (omega (arith, first.0), before o os j a first.1, first.2))
      later a None place first = (None, place, before o os (length os) a first)

  pub among-all : (os : List Operator) (k : ℕ) → foldl (searched sizes pairs weights) (passed 0) os ≡ passed k → breaking_among sizes pairs weights os ≡ None
  unfolding breaking_among
  among-all os k e = ap place_found e

  pub among-more : (os : List Operator) (o : Operator) (k : ℕ) → foldl (searched sizes pairs weights) (passed 0) os ≡ passed k → allowed sizes pairs weights o ≡ true
      → foldl (searched sizes pairs weights) (passed 0) (os ++ (o ∷ [])) ≡ passed (k + 1)
  among-more os o k e a = foldl-append (searched sizes pairs weights) (passed 0) os (o ∷ []) ∙ ap (λ s. searched sizes pairs weights s o) e ∙ search-passes sizes pairs weights k o a

  pub among-found : (os : List Operator) (o : Operator) (rest : List Operator) (k : ℕ) → foldl (searched sizes pairs weights) (passed 0) os ≡ passed k → allowed sizes pairs weights o ≡ false
      → breaking_among sizes pairs weights (os ++ (o ∷ rest)) ≡ Some k
  unfolding breaking_among
  among-found os o rest k e a = ap place_found (foldl-append (searched sizes pairs weights) (passed 0) os (o ∷ rest)
      ∙ ap (λ s. foldl (searched sizes pairs weights) (searched sizes pairs weights s o) rest) e ∙ ap (λ s. foldl (searched sizes pairs weights) s rest) (search-finds sizes pairs weights k o a) ∙ fold-found k rest)

  -- A search from the first operator on.
  from_first : (s : Option ℕ) (os : List Operator) → s ≡ place_found (foldl (searched sizes pairs weights) (passed 0) os) → FirstBreaking sizes pairs weights os s
  from_first s os e = let (r, place, first) = fold-first 0 os in rw (e ∙ place ∙ none r) first
    where
      none : (r : Option ℕ) → behind 0 r ≡ r
      none (Some j) = ap Some (zero-add j)
      none None = refl

  pub among_first : (os : List Operator) → FirstBreaking sizes pairs weights os (breaking_among sizes pairs weights os)
  unfolding breaking_among
  among_first os = from_first _ os refl

  -- All of a list are allowed, and so many of those that follow it.
  joined : (os follow : List Operator) (n : ℕ) → ((i : ℕ) → i < length os → allowed sizes pairs weights (get_or os i []) ≡ true)
      → ((i : ℕ) → i < n → allowed sizes pairs weights (get_or follow i []) ≡ true)
      → (i : ℕ) → i < length os + n → allowed sizes pairs weights (get_or (os ++ follow) i []) ≡ true
  joined os follow n first second i h = elim (test (ltb i (length os))) [
    | on e ↦ let t = ltb-true i (length os) e in rw (get_or-append os follow [] i t) (first i t)
    | off e ↦ let t = ltb-false i (length os) e in
        let q : i ≡ length os + (i - length os) = omega arith in
        rw (ap (λ p. get_or (os ++ follow) p []) q ∙ get_or-append-add os follow (i - length os) []) (second (i - length os) (omega arith))
  ]

  -- The first of a list and of those that follow it.
  pub first_then : (os follow : List Operator) (r s : Option ℕ) → FirstBreaking sizes pairs weights os r → FirstBreaking sizes pairs weights follow s
      → FirstBreaking sizes pairs weights (os ++ follow) (place_then (length os) r s)
  first_then os follow (Some j) s first second = let l = first.0 in (
    omega (arith, length-append os follow),
    λ i h. rw (get_or-append os follow [] i (omega arith)) (first.1 i h),
    rw (get_or-append os follow [] j l) first.2,
  )
  first_then os follow None (Some k) first second =
      (omega (arith, second.0, length-append os follow), joined os follow k first second.1, rw (get_or-append-add os follow k []) second.2)
  first_then os follow None None first second = λ i l. joined os follow (length follow) first second i (omega (arith, length-append os follow))

  -- ---- a file

  -- Where the operators were read, it is the first of them that is not allowed.
  pub breaking-first : (bytes : List ℕ) (at : ℕ) (os : List Operator) (next : ℕ) → operators_of sizes (length os) bytes at ≡ got os next
      → FirstBreaking sizes pairs weights os (breaking_from sizes pairs weights (length os) bytes at)
  breaking-first bytes at os next e = from_first _ os (ap place_found (walk-all (searched sizes pairs weights) sizes bytes (length os) at os next (passed 0) e))

-- The order in which the difference rows come: variable by variable, value by value.
use Prim.Native.Nat.{ℕ, zero, suc, ◌+◌, ◌-◌, ◌<◌, ◌≤◌}
use Rattle.std.specs.Prelude.{◌≡◌, ◌≢◌, Bool, not, ◌&&◌, eqb, ltb, Option, Some, None}
use Rattle.std.proofs.Math.Path.{refl, ap, sym}
use Rattle.std.proofs.Common.{ap₂, ◌∙◌, add-zero, zero-add}
use Rattle.std.proofs.Math.Logic.{inl, inr}
use Rattle.std.proofs.Math.Bool.{true, false, cond}
use mathlib.Core.List.Memᴰ.{not-nil}
use mathlib.Core.List.{List, [], ◌∷◌, ◌++◌, append-nil, append_assoc, Memᴰ as In}
use mathlib.Core.List.Memᴰ.{append_cases}
use mathlib.Core.List.Memᴰ.{cases_cons}
use native.Mathlib.Omega.{arith}
use Rattle.std.proofs.Math.Nat.{sub-zero}
use Rattle.std.proofs.Math.Numerals.{add-one}
use Rattle.std.proofs.Math.ListN.{length, get_or-eq_default}
use borrow.Author.Tests.{eq-eqb, ne_eqb, ltb-true, ltb-false}
use Rattle.meaning.specs.Sets.{Set, flat}
use Rattle.meaning.specs.Task.{value, size}
use Rattle.theory.specs.Truth.{Test, on, off, test, less, same, more, order}
use Rattle.theory.specs.Search.{and-none-left, and-none-right, and_both}
use Rattle.theory.specs.Flat.{flat-cong}
use Rattle.words.specs.Next.{Clear}
use Rattle.rows.specs.declared.Value.{Value}
use Rattle.rows.specs.Base.{atoms_at, Found, Least}

-- A value in the set of possible atoms, other than in the base state.
unfoldable pub wanted_by : List ℕ → Set → List ℕ → ℕ → Set
wanted_by sizes possible base u y = atoms_at sizes possible u y && not (eqb y (value base u))

module _ (sizes : List ℕ) (wanted : ℕ → Set) where
  -- The wanted ones of n values from y on.
  unfoldable pub values_from : ℕ → ℕ → ℕ → List (ℕ × ℕ)
  values_from u zero y = []
  values_from u (suc n) y = cond (wanted u y) ((u, y) ∷ values_from u n (suc y)) (values_from u n (suc y))

  -- Those of n variables from u on.
  unfoldable pub variables_from : ℕ → ℕ → List (ℕ × ℕ)
  variables_from zero u = []
  variables_from (suc n) u = values_from u (size sizes u) 0 ++ variables_from n (suc u)

  -- All from value y of variable u on.
  unfoldable pub wanted_from : ℕ → ℕ → List (ℕ × ℕ)
  wanted_from u y = values_from u (size sizes u - y) y ++ variables_from (length sizes - suc u) (suc u)

  -- The same list from its first element, by the code's answer.
  abbrev pub values_on : Option Value → List (ℕ × ℕ)
  values_on (Some first) = (first.variable, first.value) ∷ wanted_from first.variable (first.value + 1)
  values_on None = []

-- ---- the next wanted value of a variable, by its next possible values

clear-join : (a : Set) (start x end : ℕ) → Clear a start x → Clear a x end → Clear a start end
clear-join a start x end h k f i j = elim (test (ltb f x)) [ on e ↦ h f i (ltb-true f x e) | off e ↦ k f (ltb-false f x e) j ]

module _ (sizes : List ℕ) (possible : Set) (base : List ℕ) (u : ℕ) where
  not-base : (y : ℕ) → y ≢ value base u → not (eqb y (value base u)) ≡ true
  not-base y d = rw (ne_eqb y (value base u) d)

  at_base : (y : ℕ) → y ≡ value base u → wanted_by sizes possible base u y ≡ false
  unfolding wanted_by
  at_base y e = and-none-right (atoms_at sizes possible u y) (not (eqb y (value base u))) (rw (eq-eqb y (value base u) e))

  pub next-other : (n y x : ℕ) → Found (atoms_at sizes possible u) n y x → x ≢ value base u → Found (wanted_by sizes possible base u) n y x
  unfolding wanted_by
  next-other n y x h d = record {
    above = h.above;
    below = h.below;
    clear = λ f j k. and-none-left _ _ (h.clear f j k);
    member = and_both _ _ h.member (not-base x d);
  }

  pub next-none : (n y : ℕ) → Clear (atoms_at sizes possible u) y n → Clear (wanted_by sizes possible base u) y n
  unfolding wanted_by
  next-none n y h f j k = and-none-left _ _ (h f j k)

  -- Up to a possible value that is the base value nothing is wanted.
  clear-base : (n y x : ℕ) → Found (atoms_at sizes possible u) n y x → x ≡ value base u → Clear (wanted_by sizes possible base u) y (x + 1)
  unfolding wanted_by
  clear-base n y x h e f i j = elim (order f x) [
    | less l ↦ and-none-left _ _ (h.clear f i l)
    | same q ↦ at_base f (q ∙ e)
    | more l ↦ absurd (omega arith)
  ]

  pub next-after : (n y x : ℕ) (r : Option ℕ) → Found (atoms_at sizes possible u) n y x → x ≡ value base u → Least (atoms_at sizes possible u) n (x + 1) r → Least (wanted_by sizes possible base u) n y r
  next-after n y x (Some z) h e k = let other = next-other n (x + 1) z k (λ q. omega (arith, k.above)) in record {
    above = omega (arith, h.above, k.above);
    below = k.below;
    clear = clear-join (wanted_by sizes possible base u) y (x + 1) z (clear-base n y x h e) other.clear;
    member = other.member;
  }
  next-after n y x None h e k = clear-join (wanted_by sizes possible base u) y (x + 1) n (clear-base n y x h e) (next-none n (x + 1) k)

-- ---- the list from its first element

flat-first : {A : Type 0} (n : ℕ) (g : ℕ → List A) → flat (suc n) g ≡ g 0 ++ flat n (λ i. g (suc i))
unfolding flat
flat-first zero g = sym (append-nil (g 0))
flat-first (suc n) g = ap (λ l. l ++ g (suc n)) (flat-first n g) ∙ append_assoc (g 0) (flat n (λ i. g (suc i))) (g (suc n))

flat-front : {A : Type 0} (n y : ℕ) (g : ℕ → List A) → flat (suc n) (λ i. g (y + i)) ≡ g y ++ flat n (λ i. g (suc y + i))
flat-front n y g = flat-first n (λ i. g (y + i)) ∙ ap₂ ◌++◌ (ap g (add-zero y)) (flat-cong n _ _ (λ i l. ap g (moved i)))
  where
    moved : (i : ℕ) → y + suc i ≡ suc y + i
    moved i = omega arith

module _ (sizes : List ℕ) (wanted : ℕ → Set) where
  skip : (u d k y r : ℕ) → r ≡ y + k → r ≤ d → Clear (wanted u) y r → values_from sizes wanted u (d - y) y ≡ values_from sizes wanted u (d - r) r
  unfolding values_from
  skip u d zero y r e l h = let q : r ≡ y = omega arith in rw q refl
  skip u d (suc k) y r e l h = let q : d - y ≡ suc (d - suc y) = omega arith in
      rw (q, h y (omega arith) (omega arith)) (skip u d k (suc y) r (omega arith) l (λ f i j. h f (omega arith) j))

  values-found : (u d y r : ℕ) → Found (wanted u) d y r → values_from sizes wanted u (d - y) y ≡ (u, r) ∷ values_from sizes wanted u (d - (r + 1)) (r + 1)
  unfolding values_from
  values-found u d y r h = skip u d (r - y) y r (omega (arith, h.above)) (omega (arith, h.below)) h.clear
      ∙ (let q : d - r ≡ suc (d - suc r) = omega (arith, h.below) in rw (q, h.member, add-one) refl)

  values-none : (u d y : ℕ) → y ≤ d → Clear (wanted u) y d → values_from sizes wanted u (d - y) y ≡ []
  unfolding values_from
  values-none u d y l h = skip u d (d - y) y d (omega arith) (omega arith) h ∙ (let q : d - d ≡ 0 = omega arith in rw q refl)

  pub from_found : (u y r : ℕ) → Found (wanted u) (size sizes u) y r → wanted_from sizes wanted u y ≡ (u, r) ∷ wanted_from sizes wanted u (r + 1)
  unfolding wanted_from
  from_found u y r h = ap (λ l. l ++ variables_from sizes wanted (length sizes - suc u) (suc u)) (values-found u (size sizes u) y r h)

  -- Past the last variable there is nothing.
  pub from_end : (u y : ℕ) → length sizes ≤ u → wanted_from sizes wanted u y ≡ []
  unfolding wanted_from values_from variables_from
  from_end u y l = let q : length sizes - suc u ≡ 0 = omega arith in let p : 0 - y ≡ 0 = omega arith in rw (get_or-eq_default sizes 0 {n = u} l, q, p) refl

  from_start : (u : ℕ) → variables_from sizes wanted (length sizes - u) u ≡ wanted_from sizes wanted u 0
  unfolding wanted_from variables_from
  from_start u = elim (test (ltb u (length sizes))) [
    | on e ↦ let l : u < length sizes = ltb-true u (length sizes) e in let q : length sizes - u ≡ suc (length sizes - suc u) = omega arith in rw (q, sub-zero) refl
    | off e ↦ let l : length sizes ≤ u = ltb-false u (length sizes) e in let q : length sizes - u ≡ 0 = omega arith in rw q (sym (from_end u 0 l))
  ]

  pub from_next : (u y : ℕ) → y ≤ size sizes u → Clear (wanted u) y (size sizes u) → wanted_from sizes wanted u y ≡ wanted_from sizes wanted (u + 1) 0
  unfolding wanted_from
  from_next u y l h = ap (λ l. l ++ variables_from sizes wanted (length sizes - suc u) (suc u)) (values-none u (size sizes u) y l h)
      ∙ rw add-one (from_start (suc u))

  -- ---- what stands in the list

  values-in : (u n y : ℕ) (p : ℕ × ℕ) → In p (values_from sizes wanted u n y) → (p.0 ≡ u) × (y ≤ p.1) × (p.1 < y + n) × (wanted u p.1 ≡ true)
  unfolding values_from
  values-in u zero y p m = absurd (not-nil m)
  values-in u (suc n) y p m = elim (test (wanted u y)) [
    | on e ↦ elim (cases_cons (rw e at m)) [
      | inl z ↦ rw z (refl, omega arith, omega arith, e)
      | inr k ↦ later (values-in u n (suc y) p k)
    ]
    | off e ↦ later (values-in u n (suc y) p (rw e at m))
  ]
    where
      later : (p.0 ≡ u) × (suc y ≤ p.1) × (p.1 < suc y + n) × (wanted u p.1 ≡ true) → (p.0 ≡ u) × (y ≤ p.1) × (p.1 < y + suc n) × (wanted u p.1 ≡ true)
      later (z, a, b, e) = (z, omega arith, omega arith, e)

  -- A wanted value of a variable.
  abbrev pub Wanted : ℕ × ℕ → Type 0
  Wanted p = (p.0 < length sizes) × (p.1 < size sizes p.0) × (wanted p.0 p.1 ≡ true)

  along-in : (u y : ℕ) (p : ℕ × ℕ) → In p (values_from sizes wanted u (size sizes u - y) y) → Wanted p
  along-in u y p m = let (z, a, b, e) = values-in u (size sizes u - y) y p m in rw z (inside (test (ltb u (length sizes))) (omega arith), omega arith, e)
    where
      inside : Test (ltb u (length sizes)) → p.1 < size sizes u → u < length sizes
      inside (on e) l = ltb-true u (length sizes) e
      inside (off e) l = absurd (omega (arith, get_or-eq_default sizes 0 {n = u} (ltb-false u (length sizes) e)))

  variables-in : (n u : ℕ) (p : ℕ × ℕ) → In p (variables_from sizes wanted n u) → Wanted p
  unfolding variables_from
  variables-in zero u p m = absurd (not-nil m)
  variables-in (suc n) u p m = elim (append_cases (values_from sizes wanted u (size sizes u) 0) m) [
    | inl k ↦ along-in u 0 p (rw sub-zero k)
    | inr k ↦ variables-in n (suc u) p k
  ]

  pub from_in : (u y : ℕ) (p : ℕ × ℕ) → In p (wanted_from sizes wanted u y) → Wanted p
  unfolding wanted_from
  from_in u y p m = elim (append_cases (values_from sizes wanted u (size sizes u - y) y) m) [
    | inl k ↦ along-in u y p k
    | inr k ↦ variables-in (length sizes - suc u) (suc u) p k
  ]

  -- ---- the whole list

  values-flat : (u n y : ℕ) → values_from sizes wanted u n y ≡ flat n (λ i. cond (wanted u (y + i)) ((u, y + i) ∷ []) [])
  unfolding values_from flat
  values-flat u zero y = refl
  values-flat u (suc n) y = step (wanted u y) (values_from sizes wanted u n (suc y))
      ∙ ap (λ l. cond (wanted u y) ((u, y) ∷ []) [] ++ l) (values-flat u n (suc y)) ∙ sym (flat-front n y (λ i. cond (wanted u i) ((u, i) ∷ []) []))
    where
      step : (b : Bool) (l : List (ℕ × ℕ)) → cond b ((u, y) ∷ l) l ≡ cond b ((u, y) ∷ []) [] ++ l
      step true l = refl
      step false l = refl

  variables-flat : (n u : ℕ) → variables_from sizes wanted n u ≡ flat n (λ i. values_from sizes wanted (u + i) (size sizes (u + i)) 0)
  unfolding variables_from flat
  variables-flat zero u = refl
  variables-flat (suc n) u = ap (λ l. values_from sizes wanted u (size sizes u) 0 ++ l) (variables-flat n (suc u)) ∙ sym (flat-front n u (λ i. values_from sizes wanted i (size sizes i) 0))

  pub wanted-all : wanted_from sizes wanted 0 0 ≡ flat (length sizes) (λ u. flat (size sizes u) (λ y. cond (wanted u y) ((u, y) ∷ []) []))
  wanted-all = sym (from_start 0) ∙ ap (λ n. variables_from sizes wanted n 0) (sub-zero (length sizes)) ∙ variables-flat (length sizes) 0
      ∙ flat-cong (length sizes) _ _ (λ u l. ap (λ i. values_from sizes wanted i (size sizes i) 0) (zero-add u) ∙ values-flat u (size sizes u) 0
      ∙ flat-cong (size sizes u) _ _ (λ y k. ap (λ i. cond (wanted u i) ((u, i) ∷ []) []) (zero-add y)))

-- The listed pairs of a partial file under their new numbers: they increase, they keep their atoms, none is lost, and "unknown" is in none.
use Rattle.std.specs.Prelude.{ℕ, zero, suc, ◌+◌, ◌*◌, ◌<◌, ◌≤◌, ◌≡◌, ◌≢◌, Bool, true, false, cond, ltb}
use Rattle.std.proofs.Math.Path.{refl, ap}
use Rattle.std.proofs.Common.{ap₂, sym, ◌∙◌, inl, inr, arith, mul-le-mul_right, length-append}
use mathlib.Core.List.Memᴰ.{append_cases}
use mathlib.Core.List.Memᴰ.{eq_of_singleton}
use mathlib.Core.List.Memᴰ.{head as here}
use mathlib.Core.List.{List, [], ◌∷◌, Memᴰ as In}
use Rattle.std.proofs.Math.ListN.{length}
use Rattle.std.proofs.lemmas.List.{length-map}
use borrow.Author.Tests.{ltb-true, lt-ltb}
use Rattle.meaning.specs.Sets.{Set, flat, listed}
use Rattle.meaning.specs.Task.{size, Run}
use Rattle.meaning.specs.Feature.{atoms, features, pair_start, single, double}
use Rattle.meaning.specs.Pair.{paired}
use Rattle.meaning.specs.Partial.{built_sizes, each_pair, built_pairs}
use Rattle.theory.specs.Truth.{on, off, test, less, same, more, order}
use Rattle.theory.specs.Search.{true-together, listed_in, in-listed}
use Rattle.theory.specs.Flat.{in-flat, flat_in, in-when, when-in, table-in}
use Rattle.theory.specs.Run.{run-one, run-when, run_wider, run-flat, run-same, run_in}
use Rattle.theory.specs.TrueList.{run-pairs}
use Rattle.theory.specs.Numbering.{double-only, single-below, both-less}
use Rattle.theory.specs.NumberOrder.{all_features, all-features}
use Rattle.theory.specs.Sound.{paired-mirror}

-- ---- built sizes

pub built-length : (sizes : List ℕ) → length (built_sizes sizes) ≡ length sizes
built-length sizes = length-map sizes suc

pub built-size : (sizes : List ℕ) (i : ℕ) → i < length sizes → size (built_sizes sizes) i ≡ suc (size sizes i)
built-size [] i l = absurd (omega arith)
built-size (d ∷ ds) zero l = refl
built-size (d ∷ ds) (suc i) l = built-size ds i (omega arith)

-- ---- walks over pairs of atoms

-- Two atoms of different variables, in order.
pub record Atoms (sizes : List ℕ) : Type 0 where
  pub i : ℕ
  pub x : ℕ
  pub j : ℕ
  pub y : ℕ
  pub ordered : i < j
  pub place : j < length sizes
  pub first : x < size sizes i
  pub second : y < size sizes j

module _ {A : Type 0} (sizes : List ℕ) (g : ℕ → ℕ → ℕ → ℕ → List A) (a : A) where
  pub each_in : In a (each_pair sizes g) → (p : Atoms sizes) × In a (g p.i p.x p.j p.y)
  unfolding each_pair
  each_in m =
      let (i, hi, m1) = flat_in (length sizes) _ a m in
      let (j, hj, m2) = flat_in (length sizes) _ a m1 in
      let (e, m3) = in-when (ltb i j) _ m2 in
      let (x, hx, m4) = flat_in (size sizes i) _ a m3 in
      let (y, hy, m5) = flat_in (size sizes j) _ a m4 in
      (record { i = i; x = x; j = j; y = y; ordered = ltb-true i j e; place = hj; first = hx; second = hy }, m5)

  pub in-each : (p : Atoms sizes) → In a (g p.i p.x p.j p.y) → In a (each_pair sizes g)
  unfolding each_pair
  in-each p m =
      in-flat (length sizes) _ p.i a (omega (arith, p.ordered, p.place)) (in-flat (length sizes) _ p.j a p.place
      (when-in (ltb p.i p.j) _ (lt-ltb _ _ p.ordered) (in-flat (size sizes p.i) _ p.x a p.first (in-flat (size sizes p.j) _ p.y a p.second m))))

-- ---- listed pairs of atoms under the numbers of sizes that are no smaller

module _ (sizes : List ℕ) (pairs : Set) (c : List ℕ) (long : length c ≡ length sizes) (room : (i : ℕ) → i < length sizes → size sizes i ≤ size c i) where
  -- A pair of atoms under its new number, where it is listed.
  abbrev renumbered : ℕ → ℕ → ℕ → ℕ → List ℕ
  renumbered i x j y = cond (pairs (double sizes i x j y)) (double c i x j y ∷ []) []

  one : (i x j y : ℕ) → Run (double c i x j y) (renumbered i x j y) (double c i x j (suc y))
  unfolding double
  one i x j y = run-when (double c i x j y) (double c i x j (suc y)) (pairs (double sizes i x j y)) _ (omega arith) (λ e. run-one _ _ _ (omega arith) (omega arith))

  line : (i x j : ℕ) → j < length sizes → Run (atoms c + (pair_start c i j + x * size c j)) (flat (size sizes j) (renumbered i x j)) (atoms c + (pair_start c i j + suc x * size c j))
  unfolding double
  line i x j k = run_wider (double c i x j 0) (double c i x j (size sizes j)) _ _ _ (omega arith) (omega (arith, room j k))
      (run-flat (size sizes j) (renumbered i x j) (λ y. double c i x j y) (λ y t. one i x j y))

  block : (i j : ℕ) → i < j → j < length sizes
      → Run (atoms c + pair_start c i j) (flat (size sizes i) (λ x. flat (size sizes j) (renumbered i x j))) (atoms c + (pair_start c i j + size c i * size c j))
  block i j l k =
      run_wider (atoms c + (pair_start c i j + 0 * size c j)) (atoms c + (pair_start c i j + size sizes i * size c j)) _ _ _ (omega arith)
      (omega (arith, mul-le-mul_right (size c j) (room i (omega arith))))
      (run-flat (size sizes i) (λ x. flat (size sizes j) (renumbered i x j)) (λ x. atoms c + (pair_start c i j + x * size c j)) (λ x h. line i x j k))

  pub renumbered-run : Run (atoms c) (each_pair sizes renumbered) (features c)
  unfolding each_pair
  renumbered-run = rw long at (run-pairs c (λ i j. flat (size sizes i) (λ x. flat (size sizes j) (renumbered i x j))) (λ i j l k. block i j l (rw long at k)))

-- A feature that is no single atom is one of two atoms.
pub pair-atoms : (sizes : List ℕ) (f : ℕ) → atoms sizes ≤ f → f < features sizes → (p : Atoms sizes) × (f ≡ double sizes p.i p.x p.j p.y)
unfolding all_features each_pair
pair-atoms sizes f low high =
    let singles = flat (length sizes) (λ i. flat (size sizes i) (λ x. single sizes i x ∷ [])) in
    elim (append_cases singles (rw (← all-features sizes) at (table-in (features sizes) (λ n. n) f high))) [
      | inl m ↦ let (i, hi, k) = flat_in (length sizes) _ f m in let (x, hx, q) = flat_in (size sizes i) _ f k in absurd (omega (arith, low, eq_of_singleton q, single-below sizes i x hx))
      | inr m ↦ let (p, q) = each_in sizes (λ i x j y. double sizes i x j y ∷ []) f m in (p, eq_of_singleton q)
    ]

length-flats : {A B : Type 0} (n : ℕ) (g : ℕ → List A) (h : ℕ → List B) → ((i : ℕ) → i < n → length (g i) ≡ length (h i)) → length (flat n g) ≡ length (flat n h)
unfolding flat
length-flats zero g h e = refl
length-flats (suc n) g h e = length-append (flat n g) (g n) ∙ ap₂ ◌+◌ (length-flats n g h (λ i l. e i (omega arith))) (e n (omega arith)) ∙ sym (length-append (flat n h) (h n))

length-each : {A B : Type 0} (sizes : List ℕ) (g : ℕ → ℕ → ℕ → ℕ → List A) (h : ℕ → ℕ → ℕ → ℕ → List B)
    → ((i x j y : ℕ) → length (g i x j y) ≡ length (h i x j y)) → length (each_pair sizes g) ≡ length (each_pair sizes h)
unfolding each_pair
length-each sizes g h e = length-flats _ _ _ (λ i l. length-flats _ _ _ (λ j k. elim (test (ltb i j)) [
  | on q ↦ rw q (length-flats _ _ _ (λ x a. length-flats _ _ _ (λ y c. e i x j y)))
  | off q ↦ rw q refl
]))

module _ (sizes pairs : List ℕ) where
  -- The file's own pairs, by the same walk.
  pub pairs-by-walk : Run (atoms sizes) pairs (features sizes) → each_pair sizes (renumbered sizes (listed pairs) sizes refl (λ i l. omega arith)) ≡ pairs
  pairs-by-walk r = run-same (atoms sizes) (features sizes) (atoms sizes) (features sizes) _ pairs (renumbered-run sizes (listed pairs) sizes refl (λ i l. omega arith)) r
      (λ f. true-together _ _
      (λ e. let (p, k) = each_in sizes _ f (listed_in _ f e) in let (q, z) = in-when (listed pairs (double sizes p.i p.x p.j p.y)) _ k in ap (listed pairs) (eq_of_singleton z) ∙ q)
      (λ e. let (p, q) = found f e in in-listed _ f (in-each sizes _ f p (when-in (listed pairs (double sizes p.i p.x p.j p.y)) _ (sym (ap (listed pairs) q) ∙ e) (here q)))))
    where
      found : (f : ℕ) → listed pairs f ≡ true → (p : Atoms sizes) × (f ≡ double sizes p.i p.x p.j p.y)
      found f e = let (low, high) = run_in (atoms sizes) (features sizes) pairs f r (listed_in pairs f e) in pair-atoms sizes f low high

  -- None is lost.
  pub built-count : Run (atoms sizes) pairs (features sizes) → length (built_pairs sizes (listed pairs)) ≡ length pairs
  unfolding built_pairs
  built-count r = length-each sizes _ _ (λ i x j y. elim (test (listed pairs (double sizes i x j y))) [ on q ↦ rw q refl | off q ↦ rw q refl ]) ∙ ap length (pairs-by-walk r)

module _ (sizes : List ℕ) (pairs : Set) where
  abbrev b : List ℕ
  b = built_sizes sizes

  -- They increase, and keep their range.
  pub built-run : Run (atoms b) (built_pairs sizes pairs) (features b)
  unfolding built_pairs
  built-run = renumbered-run sizes pairs b (built-length sizes) (λ i l. rw (built-size sizes i l) (omega arith))

  -- A feature of the built task is listed there exactly when its two atoms are old ones and were listed.
  pub built_in_lem : (f : ℕ) → In f (built_pairs sizes pairs) → (p : Atoms sizes) × (pairs (double sizes p.i p.x p.j p.y) ≡ true) × (f ≡ double b p.i p.x p.j p.y)
  unfolding built_pairs
  built_in_lem f m = let (p, k) = each_in sizes _ f m in let (e, q) = in-when (pairs (double sizes p.i p.x p.j p.y)) _ k in (p, e, eq_of_singleton q)

  pub in-built : (p : Atoms sizes) → pairs (double sizes p.i p.x p.j p.y) ≡ true → In (double b p.i p.x p.j p.y) (built_pairs sizes pairs)
  unfolding built_pairs
  in-built p e = in-each sizes _ _ p (when-in (pairs (double sizes p.i p.x p.j p.y)) _ e (here refl))

  module _ (i x j y : ℕ) (l : i < j) (k : j < length sizes) (h : x < suc (size sizes i)) (t : y < suc (size sizes j)) where
    pub listed_back : listed (built_pairs sizes pairs) (double b i x j y) ≡ true → (x < size sizes i) × (y < size sizes j) × (pairs (double sizes i x j y) ≡ true)
    listed_back e =
        let (p, q, n) = built_in_lem (double b i x j y) (listed_in (built_pairs sizes pairs) (double b i x j y) e) in
        same p q (double-only b i x j y p.i p.x p.j p.y l p.ordered (rw (built-size sizes i (omega arith)) h) (rw (built-size sizes j k) t)
        (rw (built-size sizes p.i (omega (arith, p.ordered, p.place))) (omega (arith, p.first))) (rw (built-size sizes p.j p.place) (omega (arith, p.second))) n)
      where
        same : (p : Atoms sizes) → pairs (double sizes p.i p.x p.j p.y) ≡ true → (i ≡ p.i) × (x ≡ p.x) × (j ≡ p.j) × (y ≡ p.y)
            → (x < size sizes i) × (y < size sizes j) × (pairs (double sizes i x j y) ≡ true)
        same p q (a, c, d, e) = rw (a, c, d, e) (p.first, p.second, q)

  -- "Listed pairs keep their atoms".
  pub listed-known : (i x j y : ℕ) → i < j → j < length sizes → x < size sizes i → y < size sizes j
      → listed (built_pairs sizes pairs) (double b i x j y) ≡ pairs (double sizes i x j y)
  listed-known i x j y l k h t = true-together _ _ (λ e. (listed_back i x j y l k (omega arith) (omega arith) e).2)
      (λ e. in-listed _ _ (in-built (record { i = i; x = x; j = j; y = y; ordered = l; place = k; first = h; second = t }) e))

  -- "Unknown" is paired with nothing.
  listed-unknown : (i x j y : ℕ) → i < j → j < length sizes → x < suc (size sizes i) → y < suc (size sizes j) → (x < size sizes i → y < size sizes j → ⊥)
      → listed (built_pairs sizes pairs) (double b i x j y) ≡ false
  listed-unknown i x j y l k h t d = elim (test (listed (built_pairs sizes pairs) (double b i x j y))) [ on e ↦ let r = listed_back i x j y l k h t e in absurd (d r.0 r.1) | off e ↦ e ]

  -- Two atoms of different variables, either way round.
  abbrev now : ℕ → ℕ → ℕ → ℕ → Bool
  now = paired b (listed (built_pairs sizes pairs))

  abbrev once : ℕ → ℕ → ℕ → ℕ → Bool
  once = paired sizes pairs

  paired-less : (s : List ℕ) (P : ℕ → Bool) (i x j y : ℕ) → i < j → paired s P i x j y ≡ P (double s i x j y)
  unfolding paired
  paired-less s P i x j y l = ap P (both-less s i x j y l)

  pub paired-known : (i x j y : ℕ) → i ≢ j → i < length sizes → j < length sizes → x < size sizes i → y < size sizes j → now i x j y ≡ once i x j y
  paired-known i x j y d hi hj hx hy = elim (order i j) [
    | less l ↦ paired-less b _ i x j y l ∙ listed-known i x j y l hj hx hy ∙ sym (paired-less sizes _ i x j y l)
    | same q ↦ absurd (d q)
    | more l ↦ paired-mirror b _ i x j y d ∙ paired-less b _ j y i x l ∙ listed-known j y i x l hi hy hx ∙ sym (paired-less sizes _ j y i x l) ∙ sym (paired-mirror sizes _ i x j y d)
  ]

  pub paired-unknown : (i x j y : ℕ) → i ≢ j → i < length sizes → j < length sizes → x < suc (size sizes i) → y < suc (size sizes j) → (x < size sizes i → y < size sizes j → ⊥)
      → now i x j y ≡ false
  paired-unknown i x j y d hi hj hx hy n = elim (order i j) [
    | less l ↦ paired-less b _ i x j y l ∙ listed-unknown i x j y l hj hx hy n
    | same q ↦ absurd (d q)
    | more l ↦ paired-mirror b _ i x j y d ∙ paired-less b _ j y i x l ∙ listed-unknown j y i x l hi hy hx (λ p q. n q p)
  ]

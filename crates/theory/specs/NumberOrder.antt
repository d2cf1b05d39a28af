-- The numbering is document 01's: all features, listed in its order, carry the numbers 0, 1 and so on up to N - 1.
use Prim.Native.Nat.{ℕ, zero, suc, ◌+◌, ◌*◌, ◌<◌, ◌≤◌}
use Rattle.std.specs.Prelude.{◌≡◌, refl, List, [], ◌∷◌, ◌++◌, cond, ltb, take}
use Rattle.std.proofs.Common.{ap, sym, ◌∙◌, arith, zero-add, mul-add, ltb-true, ltb-false}
use Rattle.std.proofs.Math.Path.{ap₂}
use Rattle.std.proofs.Math.ListN.{length, length-append}
use Rattle.std.proofs.Math.Seq.{take-length}
use Rattle.meaning.specs.Sets.{flat, table}
use Rattle.meaning.specs.Task.{size, Run}
use Rattle.meaning.specs.Feature.{sum_of, pairs_of, atoms, features, single, pair_start, double}
use Rattle.theory.specs.Truth.{on, off, test}
use Rattle.theory.specs.Flat.{length-flat, table-cong}
use Rattle.theory.specs.Run.{run-one, run_wider, run_join, run-flat, run-first, run-rest, run_length}
use Rattle.theory.specs.TrueList.{run-atoms, run-pairs, row_start, row_in, row_out, length-steps}

-- "First the single atoms, variable 0's values first .. Then for variables i < j, in the order (0,1), (0,2) and so on, each pair of values
-- (x,y), x slower."
unfoldable pub all_features : List ℕ → List ℕ
all_features sizes =
    flat (length sizes) (λ i. flat (size sizes i) (λ x. single sizes i x ∷ []))
    ++ flat (length sizes) (λ i. flat (length sizes) (λ j. cond (ltb i j) (flat (size sizes i) (λ x. flat (size sizes j) (λ y. double sizes i x j y ∷ []))) []))

-- ---- a run as long as its bounds allow leaves no number out

pub run-full : (lo hi : ℕ) (l : List ℕ) → Run lo l hi → lo + length l ≡ hi → l ≡ table (length l) (λ i. lo + i)
unfolding table
run-full lo hi [] r e = refl
run-full lo hi (x ∷ l) r e = ap₂ ◌∷◌ (omega (arith, first)) (run-full (suc x) hi l rest (omega (arith, first)) ∙ table-cong (length l) _ _ (λ i k. omega (arith, first)))
  where
    rest : Run (suc x) l hi
    rest = run-rest lo hi x l r

    first : x ≡ lo
    first = omega (arith, run-first lo hi x l r, run_length (suc x) hi l rest)

pub run-numbers : (n : ℕ) (l : List ℕ) → Run 0 l n → length l ≡ n → l ≡ table n (λ i. i)
run-numbers n l r e = run-full 0 n l r (omega arith) ∙ table-cong (length l) _ _ (λ i k. zero-add i) ∙ ap (λ m. table m (λ i. i)) e

-- ---- each block of numbers begins where the one before ends

front-step : (sizes : List ℕ) (i : ℕ) → sum_of (take i sizes) + size sizes i ≡ sum_of (take (suc i) sizes)
unfolding sum_of
front-step [] zero = omega arith
front-step [] (suc i) = omega arith
front-step (d ∷ ds) zero = omega arith
front-step (d ∷ ds) (suc i) = omega (arith, front-step ds i)

pub pair-first : (sizes : List ℕ) → pair_start sizes 0 1 ≡ 0
unfolding pair_start sum_of
pair-first [] = refl
pair-first (d ∷ ds) = omega arith

pub pair_step : (sizes : List ℕ) (i j : ℕ) → i < j → pair_start sizes i j + size sizes i * size sizes j ≡ pair_start sizes i (suc j)
unfolding pair_start
pair_step [] i j l = omega arith
pair_step (d ∷ ds) i zero l = absurd (omega arith)
pair_step (d ∷ ds) zero (suc j) l = sym (mul-add d (sum_of (take j ds)) (size ds j)) ∙ ap (λ n. d * n) (front-step ds j)
pair_step (d ∷ ds) (suc i) (suc j) l = omega (arith, pair_step ds i j (omega arith))

-- After the last second variable comes the next first variable.
pub pair_turn : (sizes : List ℕ) (i : ℕ) → pair_start sizes i (length sizes) ≡ pair_start sizes (suc i) (suc (suc i))
unfolding pair_start
pair_turn [] i = refl
pair_turn (d ∷ ds) zero = omega (arith, pair-first ds, ap (λ n. d * sum_of n) (take-length ds))
pair_turn (d ∷ ds) (suc i) = ap (λ n. d * sum_of ds + n) (pair_turn ds i)

pub pair-last : (sizes : List ℕ) → pair_start sizes (length sizes) (suc (length sizes)) ≡ pairs_of sizes
unfolding pair_start pairs_of
pair-last [] = refl
pair-last (d ∷ ds) = ap (λ n. d * sum_of ds + n) (pair-last ds)

-- ---- the numbers in order

module _ (sizes : List ℕ) where
  -- The atoms of a variable; the pairs of two variables; the same in a row that has a place for every second variable.
  abbrev values : ℕ → List ℕ
  values i = flat (size sizes i) (λ x. single sizes i x ∷ [])

  abbrev pairs : ℕ → ℕ → List ℕ
  pairs i j = flat (size sizes i) (λ x. flat (size sizes j) (λ y. double sizes i x j y ∷ []))

  abbrev cells : ℕ → ℕ → List ℕ
  cells i j = cond (ltb i j) (pairs i j) []

  run-values : (i : ℕ) → Run (sum_of (take i sizes)) (values i) (sum_of (take i sizes) + size sizes i)
  unfolding single
  run-values i = run_wider _ _ _ _ (values i) (omega arith) (omega arith)
      (run-flat (size sizes i) (λ x. single sizes i x ∷ []) (λ x. sum_of (take i sizes) + x) (λ x l. run-one _ _ _ (omega arith) (omega arith)))

  run-cells : (i j : ℕ) → Run (atoms sizes + pair_start sizes i j) (pairs i j) (atoms sizes + (pair_start sizes i j + size sizes i * size sizes j))
  unfolding double
  run-cells i j = run_wider _ _ _ _ (pairs i j) (omega arith) (omega arith)
      (run-flat (size sizes i) _ (λ x. atoms sizes + (pair_start sizes i j + x * size sizes j)) (λ x l. run_wider _ _ _ _ _ (omega arith) (omega arith)
      (run-flat (size sizes j) (λ y. double sizes i x j y ∷ []) (λ y. double sizes i x j y) (λ y k. run-one _ _ _ (omega arith) (omega arith)))))

  pub run-all : Run 0 (all_features sizes) (features sizes)
  unfolding all_features
  run-all = run_join 0 (atoms sizes) (features sizes) _ _ (run-atoms sizes values (λ i l. run-values i)) (run-pairs sizes pairs (λ i j l k. run-cells i j))

  length-values : (i : ℕ) → length (values i) ≡ size sizes i
  length-values i = omega (arith, length-flat (size sizes i) 1 (λ x. single sizes i x ∷ []) (λ x l. refl))

  length_pairs : (i j : ℕ) → length (pairs i j) ≡ size sizes i * size sizes j
  length_pairs i j = length-flat (size sizes i) (size sizes j) _ (λ x l. omega (arith, length-flat (size sizes j) 1 (λ y. double sizes i x j y ∷ []) (λ y k. refl)))

  length-cell : (i j : ℕ) → row_start sizes i j + length (cells i j) ≡ row_start sizes i (suc j)
  length-cell i j = elim (test (ltb i j)) [
    | on e ↦ let l : i < j = ltb-true i j e in rw e (omega (arith, row_in sizes i j l, row_in sizes i (suc j) (omega arith), pair_step sizes i j l, length_pairs i j))
    | off e ↦ let l : j ≤ i = ltb-false i j e in rw e (omega (arith, row_out sizes i j (omega arith), row_out sizes i (suc j) (omega arith)))
  ]

  length-row : (i : ℕ) → i < length sizes → pair_start sizes i (suc i) + length (flat (length sizes) (cells i)) ≡ pair_start sizes (suc i) (suc (suc i))
  length-row i l = sym (ap (λ n. n + length (flat (length sizes) (cells i))) (row_out sizes i 0 (omega arith)))
      ∙ length-steps (length sizes) (cells i) (row_start sizes i) (λ j k. length-cell i j) ∙ row_in sizes i (length sizes) l ∙ pair_turn sizes i

  pub length-all : length (all_features sizes) ≡ features sizes
  unfolding all_features features atoms sum_of
  length-all = length-append (flat v values) _ ∙ ap₂ ◌+◌ singles doubles
    where
      v : ℕ
      v = length sizes

      singles : length (flat v values) ≡ sum_of sizes
      singles = omega (arith, length-steps v values (λ i. sum_of (take i sizes)) (λ i l. omega (arith, length-values i, front-step sizes i)), ap sum_of (take-length sizes))

      doubles : length (flat v (λ i. flat v (cells i))) ≡ pairs_of sizes
      doubles = omega (arith, length-steps v (λ i. flat v (cells i)) (λ i. pair_start sizes i (suc i)) length-row, pair-first sizes, pair-last sizes)

  pub all-features : all_features sizes ≡ table (features sizes) (λ f. f)
  all-features = run-numbers (features sizes) (all_features sizes) run-all length-all

-- Features listed variable by variable increase; so do those true in a state.
use Prim.Native.Nat.{ℕ, zero, suc, ◌+◌, ◌*◌, ◌<◌, ◌≤◌}
use Rattle.std.specs.Prelude.{◌≡◌, Bool, true, false, ◌&&◌, ◌||◌, cond, List, [], ◌∷◌, ◌++◌, eqb, ltb, take}
use Rattle.std.proofs.Math.Path.{refl}
use Rattle.std.proofs.Common.{ap₂, ◌∙◌, arith, length-append}
use Rattle.std.proofs.Math.Bool.{or-false}
use Rattle.std.proofs.Math.Arith.{digits_lt}
use Rattle.std.proofs.Math.ListN.{length}
use borrow.Author.Tests.{ltb-true, ltb-false, lt-ltb}
use Rattle.meaning.specs.Sets.{some, any_of, flat, listed}
use Rattle.meaning.specs.Task.{size, Run}
use Rattle.meaning.specs.Feature.{sum_of, atoms, features, single, pair_start, double, true_in}
use Rattle.theory.specs.Truth.{on, off, test}
use Rattle.theory.specs.Search.{and_left, and_right, and_both, true-together, some_at, some-get, some-cong, listed-join}
use Rattle.theory.specs.Flat.{listed-flat}
use Rattle.theory.specs.Run.{run_none, run-one, run_wider, run_join, run-flat}
use Rattle.theory.specs.Numbering.{front-room, front-next, pair-room, pair-along, pair-down}

-- ---- lists of features, variable by variable

module _ (sizes : List ℕ) where
  -- Runs of numbers of each variable's atoms make a run of atoms.
  pub run-atoms : (g : ℕ → List ℕ) → ((i : ℕ) → i < length sizes → Run (sum_of (take i sizes)) (g i) (sum_of (take i sizes) + size sizes i)) → Run 0 (flat (length sizes) g) (atoms sizes)
  unfolding atoms sum_of
  run-atoms g h = run_wider 0 (sum_of (take v sizes)) 0 (atoms sizes) (flat v g) (omega arith) (omega (arith, front-room sizes v))
      (run-flat v g (λ i. sum_of (take i sizes)) (λ i l. run_wider _ _ _ _ (g i) (omega arith) (front-next sizes i (suc i) (omega arith)) (h i l)))
    where
      v : ℕ
      v = length sizes

  -- Where the pairs of a first variable begin that come with the second variables from j on.
  unfoldable pub row_start : ℕ → ℕ → ℕ
  row_start i j = cond (ltb i j) (pair_start sizes i j) (pair_start sizes i (suc i))

  pub row_in : (i j : ℕ) → i < j → row_start i j ≡ pair_start sizes i j
  unfolding row_start
  row_in i j l = rw (lt-ltb i j l) refl

  pub row_out : (i j : ℕ) → j ≤ suc i → row_start i j ≡ pair_start sizes i (suc i)
  unfolding row_start
  row_out i j l = elim (test (ltb i j)) [ on e ↦ let q : j ≡ suc i = omega (arith, ltb-true i j e) in rw (e, q) refl | off e ↦ rw e refl ]

  -- Runs of numbers of each two variables' pairs make a run of pairs.
  pub run-pairs : (g : ℕ → ℕ → List ℕ)
      → ((i j : ℕ) → i < j → j < length sizes → Run (atoms sizes + pair_start sizes i j) (g i j) (atoms sizes + (pair_start sizes i j + size sizes i * size sizes j)))
      → Run (atoms sizes) (flat (length sizes) (λ i. flat (length sizes) (λ j. cond (ltb i j) (g i j) []))) (features sizes)
  unfolding features
  run-pairs g h = run_wider (atoms sizes + pair_start sizes 0 1) (atoms sizes + pair_start sizes v (suc v)) _ _ _ (omega arith) (omega (arith, pair-room sizes v (suc v) (omega arith)))
      (run-flat v _ (λ i. atoms sizes + pair_start sizes i (suc i)) row)
    where
      v : ℕ
      v = length sizes

      cell : (i j : ℕ) → j < v → Run (atoms sizes + row_start i j) (cond (ltb i j) (g i j) []) (atoms sizes + row_start i (suc j))
      cell i j k = elim (test (ltb i j)) [
        | on e ↦ let l : i < j = ltb-true i j e in
            rw e (run_wider _ _ _ _ (g i j) (omega (arith, row_in i j l)) (omega (arith, row_in i (suc j) (omega arith), pair-along sizes i j (suc j) l (omega arith))) (h i j l k))
        | off e ↦ let l : j ≤ i = ltb-false i j e in rw e (run_none _ _ (omega (arith, row_out i j (omega arith), row_out i (suc j) (omega arith))))
      ]

      row : (i : ℕ) → i < v → Run (atoms sizes + pair_start sizes i (suc i)) (flat v (λ j. cond (ltb i j) (g i j) [])) (atoms sizes + pair_start sizes (suc i) (suc (suc i)))
      row i l = run_wider (atoms sizes + row_start i 0) (atoms sizes + row_start i v) _ _ _ (omega (arith, row_out i 0 (omega arith)))
          (omega (arith, row_in i v l, pair-down sizes i v (suc i) (suc (suc i)) l (omega arith) (omega arith)))
          (run-flat v _ (λ j. atoms sizes + row_start i j) (cell i))

-- ---- the features true in a state

-- In the order of their numbers: the atoms, then the pairs.
unfoldable pub true_list : List ℕ → (ℕ → ℕ) → List ℕ
true_list sizes x =
    flat (length sizes) (λ i. single sizes i (x i) ∷ [])
    ++ flat (length sizes) (λ i. flat (length sizes) (λ j. cond (ltb i j) (double sizes i (x i) j (x j) ∷ []) []))

pub run-true : (sizes : List ℕ) (x : ℕ → ℕ) → ((i : ℕ) → i < length sizes → x i < size sizes i) → Run 0 (true_list sizes x) (features sizes)
unfolding true_list single double
run-true sizes x within = run_join 0 (atoms sizes) (features sizes) _ _
    (run-atoms sizes _ (λ i l. run-one _ _ _ (omega arith) (omega (arith, within i l))))
    (run-pairs sizes _ (λ i j l k. run-one _ _ _ (omega arith) (omega (arith, digits_lt (within i (omega arith)) (within j k)))))

-- A search over the pairs i < j, either number first.
pub some_pairs : (n : ℕ) (p : ℕ → ℕ → Bool) → some n (λ i. some n (λ j. ltb i j && p i j)) ≡ some n (λ j. some j (λ i. p i j))
some_pairs n p = true-together _ _ to back
  where
    to : some n (λ i. some n (λ j. ltb i j && p i j)) ≡ true → some n (λ j. some j (λ i. p i j)) ≡ true
    to e = let (i, l, r) = some-get n _ e in let (j, k, q) = some-get n _ r in
        some_at n _ j k (some_at j (λ i. p i j) i (ltb-true i j (and_left (ltb i j) (p i j) q)) (and_right (ltb i j) (p i j) q))

    back : some n (λ j. some j (λ i. p i j)) ≡ true → some n (λ i. some n (λ j. ltb i j && p i j)) ≡ true
    back e = let (j, k, r) = some-get n _ e in let (i, l, q) = some-get j _ r in
        some_at n _ i (omega arith) (some_at n (λ j. ltb i j && p i j) j k (and_both (ltb i j) (p i j) (lt-ltb i j l) q))

listed-when : (b : Bool) (a f : ℕ) → listed (cond b (a ∷ []) []) f ≡ (b && eqb f a)
unfolding listed any_of
listed-when true a f = or-false (eqb f a)
listed-when false a f = refl

pub listed-true : (sizes : List ℕ) (x : ℕ → ℕ) (f : ℕ) → listed (true_list sizes x) f ≡ true_in sizes x f
unfolding true_list true_in
listed-true sizes x f = listed-join (flat v (λ i. single sizes i (x i) ∷ [])) _ f ∙ ap₂ ◌||◌ singles doubles
  where
    v : ℕ
    v = length sizes

    singles : listed (flat v (λ i. single sizes i (x i) ∷ [])) f ≡ some v (λ i. eqb f (single sizes i (x i)))
    singles = listed-flat v _ f ∙ some-cong v _ _ (λ i l. listed-when true _ f)

    doubles : listed (flat v (λ i. flat v (λ j. cond (ltb i j) (double sizes i (x i) j (x j) ∷ []) []))) f ≡ some v (λ j. some j (λ i. eqb f (double sizes i (x i) j (x j))))
    doubles = listed-flat v _ f ∙ some-cong v _ _ (λ i l. listed-flat v _ f ∙ some-cong v _ _ (λ j k. listed-when (ltb i j) _ f)) ∙ some_pairs v (λ i j. eqb f (double sizes i (x i) j (x j)))

-- ---- lengths

-- A function that grows by the length of each list gives the length of all.
pub length-steps : {A : Type 0} (n : ℕ) (g : ℕ → List A) (lo : ℕ → ℕ) → ((i : ℕ) → i < n → lo i + length (g i) ≡ lo (suc i)) → lo 0 + length (flat n g) ≡ lo n
unfolding flat
length-steps zero g lo h = omega arith
length-steps (suc n) g lo h = rw (length-append (flat n g) (g n)) (omega (arith, length-steps n g lo (λ i l. h i (omega arith)), h n (omega arith)))

-- The pairs of a bay: they are in order, and two atoms of different slots are paired exactly when they have one label, and it occurs once.
use Rattle.std.specs.Prelude.{ℕ, ◌+◌, ◌*◌, ◌<◌, ◌≡◌, ◌≢◌, Bool, true, ◌&&◌, cond, eqb, ltb}
use Rattle.std.proofs.Math.Path.{refl, sym, ap}
use Rattle.std.proofs.Common.{◌∙◌, arith}
use mathlib.Core.List.Memᴰ.{eq_of_singleton}
use mathlib.Core.List.Memᴰ.{head as here}
use mathlib.Core.List.{[], ◌∷◌, Memᴰ as In}
use Rattle.std.proofs.Math.Nat.{suc-mul}
use Rattle.std.proofs.lemmas.List.{length-replicate}
use borrow.Author.Tests.{eqb-true, eq-eqb, ltb-true, lt-ltb}
use Rattle.meaning.specs.Sets.{flat, listed}
use Rattle.meaning.specs.Task.{Run, size}
use Rattle.meaning.specs.Feature.{atoms, features, pair_start, double}
use Rattle.meaning.specs.Pair.{paired}
use Rattle.meaning.specs.Bay.{bay_sizes, bay_pairs}
use Rattle.theory.specs.Truth.{on, off, test, less, same, more, order}
use Rattle.theory.specs.Search.{and_left, and_right, and_both, true-together, listed_in, in-listed}
use Rattle.theory.specs.Flat.{in-flat, flat_in, flat-cong, in-when, when-in}
use Rattle.theory.specs.Run.{run-one, run-when, run_wider, run-flat}
use Rattle.theory.specs.Numbering.{double-only, both-less, both-more}
use Rattle.theory.specs.TrueList.{run-pairs}
use Rattle.theory.specs.BayMoves.{eqb-mirror, bay-size, bay-below}

-- Sets of labels that agree below n give the same pairs.
pub pairs-cong : (n : ℕ) (once once' : ℕ → Bool) → ((label : ℕ) → label < n → once label ≡ once' label) → bay_pairs n once ≡ bay_pairs n once'
unfolding bay_pairs
pairs-cong n once once' labels = flat-cong n _ _ (λ i l. flat-cong n _ _ (λ j k. ap (λ s. cond (ltb i j) s [])
    (flat-cong n _ _ (λ label h. ap (λ b. cond b (double (bay_sizes n) i label j label ∷ []) []) (labels label h)))))

-- Over any set of labels that are said to occur once.
module _ (once : ℕ → Bool) where
  -- The features that put one label in the slots i < j.
  label-run : (n i j : ℕ) → i < j → j < n → Run (atoms (bay_sizes n) + pair_start (bay_sizes n) i j) (flat n (λ label. cond (once label) (double (bay_sizes n) i label j label ∷ []) []))
      (atoms (bay_sizes n) + (pair_start (bay_sizes n) i j + size (bay_sizes n) i * size (bay_sizes n) j))
  unfolding double
  label-run n i j l h = rw (bay-size n i (omega arith), bay-size n j h)
      (run_wider _ _ _ _ _ (omega arith) (omega arith) (run-flat n _ (λ label. atoms (bay_sizes n) + (pair_start (bay_sizes n) i j + label * n))
      (λ label k. run-when _ _ (once label) _ (omega (arith, suc-mul label n)) (λ _. run-one _ _ _ (omega (arith, bay-size n j h)) (omega (arith, suc-mul label n))))))

  pub pairs-run : (n : ℕ) → Run (atoms (bay_sizes n)) (bay_pairs n once) (features (bay_sizes n))
  unfolding bay_pairs
  pairs-run n = rw (length-replicate n n) at (run-pairs (bay_sizes n) _ (λ i j l h. label-run n i j l (rw (length-replicate n n) at h)))

  pub in_pairs : (n i j label : ℕ) → i < j → j < n → label < n → once label ≡ true → In (double (bay_sizes n) i label j label) (bay_pairs n once)
  unfolding bay_pairs
  in_pairs n i j label l k h c = in-flat n _ i _ (omega arith) (in-flat n _ j _ k (when-in (ltb i j) _ (lt-ltb i j l) (in-flat n _ label _ h (when-in (once label) _ c (here refl)))))

  -- A listed feature puts one label in two slots, a label that occurs once.
  pub record OneLabel (n f : ℕ) : Type 0 where
    pub first : ℕ
    pub second : ℕ
    pub label : ℕ
    pub ordered : first < second
    pub place : second < n
    pub is-label : label < n
    pub listed-label : once label ≡ true
    pub form : f ≡ double (bay_sizes n) first label second label

  pub pairs-in : (n f : ℕ) → In f (bay_pairs n once) → OneLabel n f
  unfolding bay_pairs
  pairs-in n f m =
      let (i, l, m₁) = flat_in n _ f m in
      let (j, k, m₂) = flat_in n _ f m₁ in
      let (e, m₃) = in-when (ltb i j) _ m₂ in
      let (label, h, m₄) = flat_in n _ f m₃ in
      let (c, m₅) = in-when (once label) _ m₄ in
      record { first = i; second = j; label = label; ordered = ltb-true i j e; place = k; is-label = h; listed-label = c; form = eq_of_singleton m₅ }

  ordered-pair : (n i x j y : ℕ) → i < j → j < n → x < n → y < n → listed (bay_pairs n once) (double (bay_sizes n) i x j y) ≡ (eqb x y && once x)
  ordered-pair n i x j y l k h h' = true-together _ (eqb x y && once x) to back
    where
      to : listed (bay_pairs n once) (double (bay_sizes n) i x j y) ≡ true → (eqb x y && once x) ≡ true
      to e = let o = pairs-in n _ (listed_in (bay_pairs n once) _ e) in
          let same-label = double-only (bay_sizes n) i x j y o.first o.label o.second o.label l o.ordered
          (bay-below n i x (omega arith) h) (bay-below n j y k h') (bay-below n o.first o.label (omega (arith, o.ordered, o.place)) o.is-label)
          (bay-below n o.second o.label o.place o.is-label) o.form in
          and_both (eqb x y) (once x) (eq-eqb x y (same-label.1 ∙ sym same-label.3)) (ap once same-label.1 ∙ o.listed-label)

      back : (eqb x y && once x) ≡ true → listed (bay_pairs n once) (double (bay_sizes n) i x j y) ≡ true
      back e = in-listed (bay_pairs n once) _ (rw (← (eqb-true x y (and_left (eqb x y) (once x) e))) (in_pairs n i j x l k h (and_right (eqb x y) (once x) e)))

  -- Two atoms of different slots are paired exactly when they have one label, and it occurs once.
  pub paired-bay : (n i x j y : ℕ) → i ≢ j → i < n → j < n → x < n → y < n → paired (bay_sizes n) (listed (bay_pairs n once)) i x j y ≡ (eqb x y && once x)
  unfolding paired
  paired-bay n i x j y d l k h h' = elim (order i j) [
    | less m ↦ ap (listed (bay_pairs n once)) (both-less (bay_sizes n) i x j y m) ∙ ordered-pair n i x j y m k h h'
    | same q ↦ absurd (d q)
    | more m ↦ ap (listed (bay_pairs n once)) (both-more (bay_sizes n) i x j y m) ∙ ordered-pair n j y i x m l h' h ∙ either y x
  ]
    where
      either : (y x : ℕ) → (eqb y x && once y) ≡ (eqb x y && once x)
      either y x = elim (test (eqb y x)) [
        | on q ↦ rw (q, eq-eqb x y (sym (eqb-true y x q))) (ap once (eqb-true y x q))
        | off q ↦ rw (q, sym (eqb-mirror y x) ∙ q) refl
      ]

-- What is left out, by the header of the built task: its sizes, its listed pairs and its goal.
use Rattle.std.specs.Prelude.{ℕ, ◌+◌, ◌<◌, ◌≡◌, ◌≢◌, Bool, true, false, ◌&&◌, cond, List, ltb, length}
use Rattle.std.proofs.Math.Path.{refl, sym}
use Rattle.std.proofs.Common.{◌∙◌}
use Rattle.std.proofs.Math.Numerals.{add-one}
use Rattle.meaning.specs.Sets.{Set, some, listed}
use Rattle.meaning.specs.Task.{value, size}
use Rattle.meaning.specs.Pair.{paired}
use Rattle.meaning.specs.Partial.{Partial, Ordered, named, against_goal, built_sizes, built_pairs}
use Rattle.theory.specs.Truth.{on, off, test, clash}
use Rattle.theory.specs.Search.{some-cong}
use Rattle.theory.specs.PartialPairs.{built-length}
use Rattle.theory.specs.PartialParts.{named-built, against-built, out_for, out-split}

module _ (sizes : List ℕ) where
  -- The order names a variable: its goal value is not the highest, "unknown".
  unfoldable pub named_by : List ℕ → ℕ → Bool
  named_by goal i = ltb (value goal i + 1) (size sizes i)

  -- A value is exclusive with the goal value of variable j, which is named.
  unfoldable pub against_at : Set → List ℕ → ℕ → ℕ → ℕ → Bool
  against_at pairs goal i x j = named_by goal j && paired sizes pairs i x j (value goal j)

  unfoldable pub against_by : Set → List ℕ → ℕ → ℕ → Bool
  against_by pairs goal i x = some (length sizes) (against_at pairs goal i x)

  unfoldable pub out_by : Set → List ℕ → Bool → ℕ → ℕ → Bool
  out_by pairs goal lean i x = cond (named_by goal i) lean (against_by pairs goal i x)

  -- A variable that is silent is not one that is named.
  pub silent-apart : (goal : List ℕ) (i j : ℕ) → named_by goal i ≡ false → named_by goal j ≡ true → i ≢ j
  silent-apart goal i j p q z = clash q (rw (← z) p)

-- On the built task's header these are the request's tests.
module _ (P : Partial) (ok : Ordered P) where
  abbrev built_set : Set
  built_set = listed (built_pairs P.sizes (listed P.pairs))

  pub named-by : (i : ℕ) → i < length P.sizes → named_by (built_sizes P.sizes) P.goal i ≡ named P i
  unfolding named_by
  named-by i l = rw add-one (sym (named-built P ok i l))

  -- Of a variable that is silent.
  against-by : (i x : ℕ) → i < length P.sizes → x < size P.sizes i → named P i ≡ false → against_by (built_sizes P.sizes) built_set P.goal i x ≡ against_goal P i x
  unfolding against_by against_at
  against-by i x l h q = rw (built-length P.sizes) (some-cong (length P.sizes) _ _ (λ j k. rw (named-by j k) refl)) ∙ sym (against-built P ok i x l h q)

  pub out-by : (lean : Bool) (i x : ℕ) → i < length P.sizes → x < size P.sizes i → out_by (built_sizes P.sizes) built_set P.goal lean i x ≡ out_for lean P i x
  unfolding out_by
  out-by lean i x l h = rw (named-by i l, out-split lean P i x) (elim (test (named P i)) [ on q ↦ rw q refl | off q ↦ rw q (against-by i x l h q) ])

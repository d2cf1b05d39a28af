-- Lots beside document 01's bays, in which "no two pallets are alike": where each label stands once in each list, a bay is accepted as it was, and its task is the one it had.
use Rattle.std.specs.Prelude.{ℕ, suc, ◌-◌, ◌<◌, ◌≡◌, Bool, true, cond, List, [], ◌∷◌, ltb}
use Rattle.std.proofs.Math.Path.{refl, sym, ap₂}
use Rattle.std.proofs.Common.{◌∙◌, arith}
use Rattle.std.proofs.Math.Dec.{eqb}
use borrow.Author.Tests.{eq-eqb, lt-ltb}
use Rattle.meaning.specs.Sets.{flat}
use Rattle.meaning.specs.Task.{Operator}
use Rattle.meaning.specs.Feature.{double}
use Rattle.meaning.specs.Number.{Read}
use Rattle.meaning.specs.Bay.{bay_sizes, occurrences, one_gap, equal_lots, judged_lots, once_in, occurs_in, slide, bay_pairs, bay_operators, task_for}
use Rattle.theory.specs.Search.{every-each}
use Rattle.theory.specs.BayMoves.{operators-cong}
use Rattle.theory.specs.BayPairs.{pairs-cong}

-- "each once in each list"
abbrev pub EachOnce : ℕ → List ℕ → Type 0
EachOnce n labels = (label : ℕ) → label < n → occurrences label labels ≡ 1

-- "lists as pairs all features that put one label in two slots"
abbrev pub all_pairs : ℕ → List ℕ
all_pairs n = flat n (λ i. flat n (λ j. cond (ltb i j) (flat n (λ label. double (bay_sizes n) i label j label ∷ [])) []))

-- "for each slot p with the gap, each neighbour q in increasing order, each label t from 1"
abbrev pub all_operators : ℕ → (ℕ → ℕ → Bool) → List Operator
all_operators n near = flat n (λ p. flat n (λ q. cond (near p q) (flat (n - 1) (λ k. slide p q (suc k) ∷ [])) []))

module _ (n : ℕ) (start goal : List ℕ) (slots : 0 < n) (start-once : EachOnce n start) (goal-once : EachOnce n goal) where
  -- Such labels are not refused.
  pub different-judged : {A : Type 0} (whole : Read A) → judged_lots n start goal whole ≡ whole
  unfolding judged_lots one_gap equal_lots
  different-judged whole =
      rw (
        eq-eqb (occurrences 0 start) 1 (start-once 0 slots),
        eq-eqb (occurrences 0 goal) 1 (goal-once 0 slots),
        every-each n (λ label. eqb (occurrences label start) (occurrences label goal)) (λ label l. eq-eqb _ _ (start-once label l ∙ sym (goal-once label l))),
      )
      refl

  -- All their labels give pairs, and all from 1 on slide.
  pub different-task : (near : ℕ → ℕ → Bool)
      → task_for n near start goal ≡ record { sizes = bay_sizes n; start = start; goal = goal; pairs = all_pairs n; operators = all_operators n near }
  unfolding task_for bay_pairs bay_operators
  different-task near = ap₂ (λ pairs operators. record { sizes = bay_sizes n; start = start; goal = goal; pairs = pairs; operators = operators })
      (pairs-cong n (once_in start) (λ label. true) (λ label l. eq-eqb (occurrences label start) 1 (start-once label l)))
      (operators-cong n near near (occurs_in start) (λ label. true) (λ p q l k. refl) (λ label l. lt-ltb 0 (occurrences label start) (omega (arith, start-once label l))))

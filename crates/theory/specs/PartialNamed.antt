-- Orders that name every variable, or none: what is kept for each; and why the letter of section 5.2 is not enough for a full order.
use Rattle.std.specs.Prelude.{ℕ, ◌<◌, ◌≡◌, true, length}
use Rattle.std.proofs.Math.Path.{refl, sym}
use Rattle.std.proofs.Common.{◌∙◌, arith}
use Rattle.std.proofs.Math.Bool.{false}
use mathlib.Core.List.Memᴰ.{append_right}
use mathlib.Core.List.{List, ◌++◌, Memᴰ as In}
use borrow.Author.Tests.{ltb-true, le-ltb}
use Rattle.meaning.specs.Sets.{Set, all_of, listed}
use Rattle.meaning.specs.Task.{Operator, State, value, size}
use Rattle.meaning.specs.Feature.{parity}
use Rattle.meaning.specs.Pair.{closed, holds}
use Rattle.meaning.specs.Weight.{Separates}
use Rattle.meaning.specs.Partial.{Partial, Ordered, named, Reaches, built_sizes, built_pairs, forgettings, built_task, against_goal, left_out, left_out_lean}
use Rattle.theory.specs.Truth.{clash}
use Rattle.theory.specs.Search.{some-not}
use Rattle.theory.specs.Sound.{same-parity}
use Rattle.theory.specs.PartialPairs.{built-length, built-size}
use Rattle.theory.specs.PartialTask.{state-built, holds-built, forgettings-in, built-acceptable}
use Rattle.theory.specs.PartialPlans.{forgot-goal}

module _ (P : Partial) where
  -- Nothing is named: by the letter and by the lean call nothing is left out.
  module _ (none : (i : ℕ) → i < length P.sizes → named P i ≡ false) where
    against-none : (i x : ℕ) → against_goal P i x ≡ false
    unfolding against_goal
    against-none i x = some-not (length P.sizes) _ (λ j k. rw (none j k) refl)

    pub silent-kept : (i x : ℕ) → i < length P.sizes → (left_out P i x ≡ false) × (left_out_lean P i x ≡ false)
    unfolding left_out left_out_lean
    silent-kept i x l = rw (none i l, against-none i x) (refl, refl)

  -- Everything is named: by the letter nothing is left out, and the lean call keeps no forgetting operator.
  module _ (all : (i : ℕ) → i < length P.sizes → named P i ≡ true) where
    pub named-kept : (i x : ℕ) → i < length P.sizes → left_out P i x ≡ false
    unfolding left_out
    named-kept i x l = rw (all i l) refl

    pub named-lean : (o : Operator) → In o (forgettings P.sizes (left_out_lean P)) → ⊥
    unfolding left_out_lean
    named-lean o m = let (i, x, l, h, kept, q) = forgettings-in P.sizes (left_out_lean P) o m in clash (rw (all i l) refl) kept

    -- By the letter start and goal both lead to "all unknown", so that no weights separate them.
    module _ (ok : Ordered P) (free : holds P.sizes (listed P.pairs) P.start ≡ false) (goal-free : holds P.sizes (listed P.pairs) P.goal ≡ false)
        (shut : all_of (closed (built_sizes P.sizes) (listed (built_pairs P.sizes (listed P.pairs)))) P.operators ≡ true) where
      -- The same order with nothing named.
      unknown : Partial
      unknown = record { sizes = P.sizes; start = P.start; goal = P.sizes; pairs = P.pairs; operators = P.operators }

      unknown-ordered : Ordered unknown
      unfolding unknown
      unknown-ordered = record {
        variables = ok.variables;
        each = ok.each;
        total = ok.total;
        start = ok.start;
        goal = record { full = sym (built-length P.sizes); values = λ i k. let l = rw (built-length P.sizes) at k in rw (built-size P.sizes i l) (omega arith) };
        pairs = ok.pairs;
        operators = ok.operators;
      }

      all-forgotten : (s : List ℕ) → State P.sizes s → Reaches (forgettings P.sizes (left_out P)) s P.sizes
      unfolding unknown named
      all-forgotten s t = forgot-goal unknown unknown-ordered (left_out P) s t (λ i l _. named-kept i (value s i) l)
          (λ i l q. absurd (clash q (le-ltb (size P.sizes i) (size P.sizes i) (omega arith))))

      goal-state : State P.sizes P.goal
      unfolding named
      goal-state = record { full = ok.goal.full ∙ built-length P.sizes; values = λ i l. ltb-true _ _ (all i l) }

      pub named-never-separates : (w : Set) → Separates (built_task P (left_out P)) w → ⊥
      unfolding built_task
      named-never-separates w good = good.ends (sym (as-unknown P.start ok.start free) ∙ as-unknown P.goal goal-state goal-free)
        where
          as-unknown : (s : List ℕ) → State P.sizes s → holds P.sizes (listed P.pairs) s ≡ false → parity (built_sizes P.sizes) w P.sizes ≡ parity (built_sizes P.sizes) w s
          as-unknown s t clean =
              let fine = built-acceptable P ok (left_out P) (holds-built P.sizes (listed P.pairs) P.start ok.start ∙ free) shut in
              let (plan, from, leads) = all-forgotten s t in
              same-parity (built_sizes P.sizes) (listed (built_pairs P.sizes (listed P.pairs))) (P.operators ++ forgettings P.sizes (left_out P))
              (λ o m. (fine.operators o m).entries) fine.closed-under w good.keeps
              plan (λ o m. append_right P.operators (from o m)) s P.sizes (state-built P.sizes s t) (holds-built P.sizes (listed P.pairs) s t ∙ clean) leads

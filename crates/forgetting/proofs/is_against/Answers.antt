-- `is_against`: some variable below the count of them passes the test.
use Rattle.std.specs.Prelude.{ℕ, zero, suc, ◌+◌, ◌-◌, ◌≡◌, refl, Bool, true, false, ◌||◌, length}
use Rattle.std.specs.List.{range_with_len, list_any}
use Rattle.std.proofs.Common.{rules, sym, ap, ap₂, ◌∙◌, arith}
use Rattle.std.proofs.lemmas.Iterator.{YieldsList-from_range}
use Rattle.std.proofs.lemmas.Iterator.Search.{any_from_yields_List}
use borrow.Author.Tests.{tests}
use Rattle.meaning.specs.Sets.{some}
use Rattle.meaning.specs.Workspace.{has}
use Rattle.theory.specs.Search.{some-cong}
use Rattle.forgetting.specs.Out.{against_at, against_by}
use Rattle.forgetting.proofs.is_against.Goals as goal

or_assoc : (a b c : Bool) → ((a || b) || c) ≡ (a || (b || c))
or_assoc true b c = refl
or_assoc false b c = refl

or-none : (a : Bool) → a ≡ (a || false)
or-none true = refl
or-none false = refl

-- The first number passes, or some later one.
some-front : (n : ℕ) (test : ℕ → Bool) → some (suc n) test ≡ (test 0 || some n (λ k. test (suc k)))
unfolding some
some-front zero test = or-none (test 0)
some-front (suc n) test = ap (λ b. b || test (suc n)) (some-front n test) ∙ or_assoc (test 0) (some n (λ k. test (suc k))) (test (suc n))

-- Some number of n from a on passes, and some number below n.
some-from : (a n : ℕ) (test : ℕ → Bool) → list_any test (range_with_len a n) ≡ some n (λ k. test (a + k))
unfolding some
some-from a zero test = refl
some-from a (suc n) test = ap₂ ◌||◌ (ap test (omega arith)) (some-from (a + 1) n test ∙ some-cong n _ _ (λ k l. ap test (omega arith))) ∙ sym (some-front n (λ k. test (a + k)))

some-range : (n : ℕ) (test : ℕ → Bool) → list_any test (range_with_len 0 (n - 0)) ≡ some n test
some-range n test = let e : n - 0 ≡ n = omega arith in rw e (some-from 0 n test ∙ some-cong n _ _ (λ k l. ap test (omega arith)))

pub returns : goal.returns
unfolding against_by
returns c = let a = c.args in
    let against : ℕ → Bool = against_at a.sizes.now (has a.pairs.now) a.goal.now a.i a.x in
    any_from_yields_List against _ _ c.any.result c.any.ensures.ran (YieldsList-from_range 0 _ _ refl refl) (λ x b q k. search (rules, tests))
    ∙ some-range (length a.sizes.now) against

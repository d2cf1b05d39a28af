-- A walk over the forgetting operators that are kept, to the first that weights do not allow.
use Rattle.std.specs.Prelude.{ℕ, ◌+◌, ◌≡◌, Bool, true, false, Option, Some, None}
use Rattle.std.proofs.Common.{ap, ◌∙◌}
use mathlib.Core.List.{List, foldl}
use Rattle.meaning.specs.Sets.{Set}
use Rattle.theory.specs.Rows.{allowed}
use Rattle.forgetting.specs.declared.Kept.{Kept}
use Rattle.forgetting.specs.Kept.{forgotten_by, kept_before, kept_all, passed_by, Found, Stands, kept-none, found-more, found-split, stands-first, stands-next, stands-found}
use Rattle.checking.specs.declared.Verdict.TheVariants.{Accepted, Operator}
use Rattle.checking.specs.Breaking.{passed, searched, breaking_among, among-all, among-more, among-found}
use Rattle.checking.specs.Answer.{verdict_then, then-breaks, then-accepts}

module _ (sizes : List ℕ) (pairs weights : Set) (out : ℕ → ℕ → Bool) where
  -- The walk stands at one that is kept, or at the end, with k before it, and these are allowed.
  pub record Passing (r : Option Kept) (k : ℕ) : Type 0 where
    pub stands : Stands sizes out r k
    pub allowed : foldl (searched sizes pairs weights) (passed 0) (passed_by sizes out r) ≡ passed k

  pub passing-first : (r : Option Kept) → Found sizes out 0 0 r → Passing r 0
  passing-first r found = record { stands = stands-first sizes out r found; allowed = ap (foldl (searched sizes pairs weights) (passed 0)) (found.same ∙ kept-none sizes out) }

  module _ (kept : Kept) (k : ℕ) (passing : Passing (Some kept) k) where
    pub passing-next : (r : Option Kept) → allowed sizes pairs weights (forgotten_by sizes kept.variable kept.value) ≡ true
        → Found sizes out kept.variable (kept.value + 1) r → Passing r (k + 1)
    passing-next r a found = record {
      stands = stands-next sizes out kept k passing.stands r found;
      allowed = ap (foldl (searched sizes pairs weights) (passed 0)) (found.same ∙ found-more sizes out _ _ kept (stands-found sizes out kept k passing.stands))
          ∙ among-more sizes pairs weights (kept_before sizes out kept.variable kept.value) (forgotten_by sizes kept.variable kept.value) k passing.allowed a;
    }

    pub passing-breaks : (count : ℕ) → allowed sizes pairs weights (forgotten_by sizes kept.variable kept.value) ≡ false
        → Operator (count + k) ≡ verdict_then sizes pairs weights count (kept_all sizes out)
    passing-breaks count a = let (rest, e) = found-split sizes out _ _ kept (stands-found sizes out kept k passing.stands) in
        then-breaks sizes pairs weights count (kept_all sizes out) k
        (ap (breaking_among sizes pairs weights) e ∙ among-found sizes pairs weights (kept_before sizes out kept.variable kept.value) (forgotten_by sizes kept.variable kept.value) rest k passing.allowed a)

  pub passing-ends : (k count : ℕ) → Passing None k → Accepted ≡ verdict_then sizes pairs weights count (kept_all sizes out)
  passing-ends k count passing = then-accepts sizes pairs weights count (kept_all sizes out) (among-all sizes pairs weights (kept_all sizes out) k passing.allowed)

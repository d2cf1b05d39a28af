-- Where no pair is listed: every value is possible, no two atoms are paired, no state holds a pair, and no entry need be looked at.
use Rattle.std.specs.Prelude.{ℕ, ◌≡◌, true, false, not, List, []}
use Rattle.std.proofs.Math.Path.{refl}
use Rattle.std.proofs.Common.{sym, ap, ◌∙◌}
use Rattle.meaning.specs.Sets.{Set, any_of}
use Rattle.meaning.specs.Task.{Operator, Entries, names}
use Rattle.meaning.specs.Pair.{paired, possible, clashing, holds}
use Rattle.theory.specs.Search.{some-not, any-not, two-not}

-- These entries are enough to look at, instead of all.
pub record Suffices (pairs : Set) (o looked : Operator) : Type 0 where
  pub entries : (sizes : List ℕ) → Entries sizes 0 o → Entries sizes 0 looked
  pub unnamed : (u : ℕ) → names o u ≡ false → names looked u ≡ false
  pub same : (sizes : List ℕ) (u y : ℕ) → possible sizes pairs looked u y ≡ possible sizes pairs o u y

pub all-suffice : (pairs : Set) (o : Operator) → Suffices pairs o o
all-suffice pairs o = record { entries = λ sizes h. h; unnamed = λ u q. q; same = λ sizes u y. refl }

module _ (pairs : Set) (none : (f : ℕ) → pairs f ≡ false) where
  pub none-possible : (sizes : List ℕ) (o : Operator) (u y : ℕ) → possible sizes pairs o u y ≡ true
  unfolding possible paired
  none-possible sizes o u y = ap not (any-not _ o (λ e m. none _))

  pub none-clashing : (sizes : List ℕ) (o : Operator) → clashing sizes pairs o ≡ false
  unfolding clashing paired
  none-clashing sizes o = two-not _ o (λ e e' t. none _)

  pub none-held : (sizes state : List ℕ) → holds sizes pairs state ≡ false
  unfolding holds paired
  none-held sizes state = some-not _ _ (λ j l. some-not _ _ (λ i k. none _))

  pub none-suffices : (o : Operator) → Suffices pairs o []
  unfolding names any_of
  none-suffices o = record { entries = λ sizes h. tt; unnamed = λ u q. refl; same = λ sizes u y. none-possible sizes [] u y ∙ sym (none-possible sizes o u y) }

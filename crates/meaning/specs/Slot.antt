-- The slots that a condition on weights gives: forced sets, in reduced shape.
use Rattle.std.specs.Prelude.{ℕ, ◌<◌, ◌≡◌, ◌≢◌, true, false}
use Rattle.meaning.specs.Sets.{Set, Slots, odd, shared}

-- The least member of a set is i.
pub record LeastMember (i : ℕ) (features : Set) : Type 0 where
  pub member : features i ≡ true
  pub first : (f : ℕ) → f < i → features f ≡ false

-- The reduced shape of n slots. A slot that is not empty has its index as least member, so `slots j j` says that slot j is not empty; it
-- "contains no other slot's index among the non-empty slots".
pub record Reduced (n : ℕ) (slots : Slots) : Type 0 where
  pub within : (i f : ℕ) → slots i f ≡ true → (i < n) × (f < n)
  pub low : (i f : ℕ) → f < i → slots i f ≡ false
  pub full : (i f : ℕ) → slots i f ≡ true → slots i i ≡ true
  pub clear : (i j : ℕ) → slots j j ≡ true → j ≢ i → slots i j ≡ false

-- "Call a feature set forced if every weight list that meets all the operators' conditions (not the ends) meets it an even number of times."
abbrev pub Forced : ℕ → (Set → Type 0) → Set → Type 0
Forced n Meets features = (weights : Set) → Meets weights → odd (shared n weights features) ≡ false

-- "Slot i holds the forced set whose least member is i and which contains no other slot's index among the non-empty slots; it is empty if no
-- forced set has least member i."
pub record SlotsOf (n : ℕ) (Meets : Set → Type 0) (slots : Slots) : Type 0 where
  pub shape : Reduced n slots
  pub forced : (i : ℕ) → slots i i ≡ true → Forced n Meets (slots i)
  pub needed : (i : ℕ) (features : Set) → i < n → Forced n Meets features → LeastMember i features → slots i i ≡ true

-- "its stored slots stand for the earlier operators' conditions": the condition that slots state.
abbrev pub Stored : ℕ → Slots → Set → Type 0
Stored n slots weights = (i : ℕ) → i < n → odd (shared n weights (slots i)) ≡ false

-- Sets of features, the finite tests that the definitions are written in, and counting. Nothing here is about tasks yet.
use Rattle.std.specs.Prelude.{ℕ, zero, suc, ◌+◌, ◌%◌, ◌^◌, Bool, true, false, not, ◌&&◌, ◌||◌, cond, List, [], ◌∷◌, ◌++◌, eqb}

infixl 32 ◌⊕◌
-- One of the two and not both.
abbrev pub ◌⊕◌ : Bool → Bool → Bool
true ⊕ b = not b
false ⊕ b = b

-- A set of features: which numbers are in it.
abbrev pub Set : Type 0
Set = ℕ → Bool

-- For each slot number, the set that the slot holds.
abbrev pub Slots : Type 0
Slots = ℕ → Set

-- How many of the numbers below n pass a test.
unfoldable pub count : ℕ → (ℕ → Bool) → ℕ
count zero test = 0
count (suc n) test = count n test + cond (test n) 1 0

-- A count modulo 2, as a truth value.
abbrev pub odd : ℕ → Bool
odd n = eqb (n % 2) 1

-- How many numbers below n two sets share.
unfoldable pub shared : ℕ → Set → Set → ℕ
shared n a b = count n (λ f. a f && b f)

-- Some number below n passes a test.
unfoldable pub some : ℕ → (ℕ → Bool) → Bool
some zero test = false
some (suc n) test = some n test || test n

-- Every number below n passes a test.
unfoldable pub every : ℕ → (ℕ → Bool) → Bool
every zero test = true
every (suc n) test = every n test && test n

-- Some element of a list passes a test.
unfoldable pub any_of : {A : Type 0} → (A → Bool) → List A → Bool
any_of test [] = false
any_of test (a ∷ l) = test a || any_of test l

-- Every element of a list passes a test.
unfoldable pub all_of : {A : Type 0} → (A → Bool) → List A → Bool
all_of test [] = true
all_of test (a ∷ l) = test a && all_of test l

-- Some element of a list and a later one stand in a relation.
unfoldable pub two_of : {A : Type 0} → (A → A → Bool) → List A → Bool
two_of relation [] = false
two_of relation (a ∷ l) = any_of (relation a) l || two_of relation l

-- The lists that a function gives for the numbers below n, one after another.
unfoldable pub flat : {A : Type 0} → ℕ → (ℕ → List A) → List A
flat zero lists = []
flat (suc n) lists = flat n lists ++ lists n

-- The values of a function at the numbers below n, as a list.
unfoldable pub table : {A : Type 0} → ℕ → (ℕ → A) → List A
table zero value = []
table (suc n) value = value 0 ∷ table n (λ i. value (suc i))

-- The members of a list of numbers, as a set.
unfoldable pub listed : List ℕ → Set
listed l f = any_of (eqb f) l

-- A set of features is read as the whole number with 2 to the power i for each listed i.
unfoldable pub whole_number : ℕ → Set → ℕ
whole_number zero a = 0
whole_number (suc n) a = whole_number n a + cond (a n) (2 ^ n) 0

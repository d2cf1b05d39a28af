-- Tasks, states and operators, and what it is to apply an operator.
use Rattle.std.specs.Prelude.{ℕ, suc, ◌<◌, ◌≤◌, ◌≡◌, Bool, List, [], ◌∷◌, length, get_or, set, eqb}
use Rattle.meaning.specs.declared.Entry as declared
use Rattle.meaning.specs.Sets.{any_of, all_of}

-- An entry of an operator: "(variable, before, after)".
abbrev pub Entry : Type 0
Entry = declared.Entry

abbrev pub Operator : Type 0
Operator = List Entry

-- "A task has v variables, each with a size d"; "start and goal are full states"; it "lists two-variable features that are never true".
pub record Task : Type 0 where
  pub sizes : List ℕ
  pub start : List ℕ
  pub goal : List ℕ
  pub pairs : List ℕ
  pub operators : List Operator

-- The value that a state gives to a variable.
abbrev pub value : List ℕ → ℕ → ℕ
value state i = get_or state i 0

-- The size of a variable.
abbrev pub size : List ℕ → ℕ → ℕ
size sizes i = get_or sizes i 0

-- "its values are 0 to d-1. A state gives each variable a value."
pub record State (sizes : List ℕ) (state : List ℕ) : Type 0 where
  pub full : length state ≡ length sizes
  pub values : (i : ℕ) → i < length sizes → value state i < size sizes i

-- Entries for variables from `low` on, "variables strictly increasing", each variable and each value in its range.
abbrev pub Entries : List ℕ → ℕ → Operator → Type 0
Entries sizes low [] = Unit {0}
Entries sizes low (e ∷ es) =
    (low ≤ e.variable)
    × (e.variable < length sizes)
    × (e.before < size sizes e.variable)
    × (e.after < size sizes e.variable)
    × Entries sizes (suc e.variable) es

-- "An operator has 1 to v entries" (not more than v, because their variables increase).
pub record IsOperator (sizes : List ℕ) (o : Operator) : Type 0 where
  pub filled : 1 ≤ length o
  pub entries : Entries sizes 0 o

-- The operator names a variable.
unfoldable pub names : Operator → ℕ → Bool
names o i = any_of (λ e. eqb e.variable i) o

-- "It applies in a state that has every before value"
unfoldable pub applies : Operator → List ℕ → Bool
applies o state = all_of (λ e. eqb (value state e.variable) e.before) o

-- "and sets the after values."
unfoldable pub applied : Operator → List ℕ → List ℕ
applied [] state = state
applied (e ∷ es) state = applied es (set state e.variable e.after)

-- A list of numbers that strictly increases, from `low` on and below `high`.
unfoldable pub Run : ℕ → List ℕ → ℕ → Type 0
Run low [] high = low ≤ high
Run low (x ∷ xs) high = (low ≤ x) × Run (suc x) xs high

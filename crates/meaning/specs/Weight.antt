-- When weights separate, the least that do, and where plans lead.
use Rattle.std.specs.Prelude.{ℕ, ◌<◌, ◌≤◌, ◌≡◌, ◌≢◌, true, false, length}
use mathlib.Core.List.{List, [], ◌∷◌, Memᴰ as In}
use Rattle.meaning.specs.Sets.{Set, listed, whole_number}
use Rattle.meaning.specs.Task.{Operator, Task, State, names, applies, applied, value}
use Rattle.meaning.specs.Feature.{parity}
use Rattle.meaning.specs.Pair.{possible, idle}

module _ (sizes : List ℕ) (pairs : Set) where
  -- A "state that has its before values and possible values elsewhere". Two unnamed values may be paired with each other.
  pub record Considered (o : Operator) (state : List ℕ) : Type 0 where
    pub is_state : State sizes state
    pub has-before : applies o state ≡ true
    pub elsewhere : (u : ℕ) → u < length sizes → names o u ≡ false → possible sizes pairs o u (value state u) ≡ true

  -- The operator "keeps parity from every" such state.
  abbrev pub Keeps : Set → Operator → Type 0
  Keeps weights o = (state : List ℕ) → Considered o state → parity sizes weights (applied o state) ≡ parity sizes weights state

  -- One operator's condition: idle ones have none.
  abbrev pub Allows : Set → Operator → Type 0
  Allows weights o = idle sizes pairs o ≡ false → Keeps weights o

  -- The weights meet "all the operators' conditions (not the ends)".
  abbrev pub Meets : List Operator → Set → Type 0
  Meets operators weights = (o : Operator) → In o operators → Allows weights o

-- Weights separate start from goal under a condition: they meet it, and "the parities of start and goal differ".
pub record SeparatesBy (Condition : Set → Type 0) (sizes start goal : List ℕ) (weights : Set) : Type 0 where
  pub ends : parity sizes weights start ≢ parity sizes weights goal
  pub keeps : Condition weights

-- "Weights separate if the parities of start and goal differ, and each operator that isn't idle keeps parity from every state that has its
-- before values and possible values elsewhere."
abbrev pub Separates : Task → Set → Type 0
Separates T = SeparatesBy (Meets T.sizes (listed T.pairs) T.operators) T.sizes T.start T.goal

-- Of the sets of features below n that are good: the one with the least whole number.
pub record LeastOf (n : ℕ) (Good : Set → Type 0) (weights : Set) : Type 0 where
  pub good : Good weights
  pub least : (other : Set) → Good other → whole_number n weights ≤ whole_number n other

-- A plan: a sequence of operators, applied one after the other, leads from one state to another.
abbrev pub Leads : List Operator → List ℕ → List ℕ → Type 0
Leads [] state end = state ≡ end
Leads (o ∷ plan) state end = (applies o state ≡ true) × Leads plan (applied o state) end

-- "no sequence of that task's moves leads from the start to the goal"
abbrev pub Unsolvable : Task → Type 0
Unsolvable T = (plan : List Operator) → ((o : Operator) → In o plan → In o T.operators) → Leads plan T.start T.goal → ⊥

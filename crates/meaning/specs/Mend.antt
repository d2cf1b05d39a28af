-- Pair lists made by hand (document 02, ticket 3): good lists, the largest good sublist, what the calls leave that keep it and that say which pairs were dropped; and which pair, of
-- which operator, is behind a refusal 6 or 7.
use Rattle.std.specs.Prelude.{ℕ, ◌<◌, ◌≡◌, ◌⊎◌, true, false, not, ◌&&◌, cond, length, get_or, ltb}
use mathlib.Core.List.{List, [], ◌∷◌, Memᴰ as In}
use Rattle.meaning.specs.Sets.{Set, listed}
use Rattle.meaning.specs.Limits.{fault_words}
use Rattle.meaning.specs.Task.{Operator, Task, Run}
use Rattle.meaning.specs.Feature.{atoms, features}
use Rattle.meaning.specs.Pair.{closed, holds, held_pair, unclosed_pair}
use Rattle.meaning.specs.Slot.{LeastMember}
use Rattle.meaning.specs.Number.{Small}
use Rattle.meaning.specs.File.{kind_of, task_of, weight_bytes, task_bytes_as}
use Rattle.meaning.specs.Answer.{Outcome, refuses, writes, delivered, by_read}

-- ---- good lists

-- "Call a list good if it is closed under every operator and the start holds none of it."
pub record Good (T : Task) (pairs : Set) : Type 0 where
  pub closed-under : (o : Operator) → In o T.operators → closed T.sizes pairs o ≡ true
  pub free : holds T.sizes pairs T.start ≡ false

-- Every pair of the one list is in the other.
abbrev pub Within : Set → Set → Type 0
Within a b = (f : ℕ) → a f ≡ true → b f ≡ true

-- A sublist of the listed pairs: some of them, in increasing order.
pub record Sublist (T : Task) (pairs : List ℕ) : Type 0 where
  pub increasing : Run (atoms T.sizes) pairs (features T.sizes)
  pub within : Within (listed pairs) (listed T.pairs)

-- "the largest good sublist": "any good sublist is within it".
pub record Largest (T : Task) (kept : List ℕ) : Type 0 where
  pub sublist : Sublist T kept
  pub good : Good T (listed kept)
  pub most : (other : List ℕ) → Sublist T other → Good T (listed other) → Within (listed other) (listed kept)

-- "which pairs it dropped, in increasing order": those of the list that are not kept.
pub record Dropped (T : Task) (kept dropped : List ℕ) : Type 0 where
  pub sublist : Sublist T dropped
  pub each : (f : ℕ) → listed dropped f ≡ (listed T.pairs f && not (listed kept f))

-- The mended task: the list that is kept, and everything else as it came.
abbrev pub mended : Task → List ℕ → Task
mended T kept = record { sizes = T.sizes; start = T.start; goal = T.goal; pairs = kept; operators = T.operators }

-- ---- the calls

-- mend(task, room): "a tool that keeps the largest good sublist"; it "gives no 6 or 7". The mended task's file, of the kind that came.
abbrev pub Mends : List ℕ → List ℕ → Outcome ℕ → Type 0
Mends task room outcome =
    by_read (task_of task 0)
    (λ T. (kept : List ℕ) × Largest T kept × (outcome ≡ delivered (task_bytes_as (kind_of task 0) (mended T kept)) room))
    (λ reason. outcome ≡ refuses reason room)

-- dropped(task, room): "and says which pairs it dropped", as count and features.
abbrev pub Drops : List ℕ → List ℕ → Outcome ℕ → Type 0
Drops task room outcome =
    by_read (task_of task 0)
    (λ T. (kept : List ℕ)
    × (dropped : List ℕ)
    × Largest T kept
    × Dropped T kept dropped
    × (outcome ≡ delivered (weight_bytes dropped) room))
    (λ reason. outcome ≡ refuses reason room)

-- ---- the pair behind a refusal

-- Why a list is not good.
pub data PairFault : Type 0 where
  no_fault start_holds operator_breaks : PairFault

-- The least listed pair that the start holds is f.
abbrev pub LeastHeld : Task → ℕ → Type 0
LeastHeld T f = LeastMember f (λ g. listed T.pairs g && held_pair T.sizes T.start g)

-- The start holds none; operator j is the first under which the list is not closed, and f the least listed pair that is unclosed under it.
pub record LeastUnclosed (T : Task) (j f : ℕ) : Type 0 where
  pub free : holds T.sizes (listed T.pairs) T.start ≡ false
  pub counted : j < length T.operators
  pub broken : closed T.sizes (listed T.pairs) (get_or T.operators j []) ≡ false
  pub earlier : (i : ℕ) → i < j → closed T.sizes (listed T.pairs) (get_or T.operators i []) ≡ true
  pub least : LeastMember f (λ g. listed T.pairs g && unclosed_pair T.sizes (listed T.pairs) (get_or T.operators j []) g)

-- The pair goes to the first word, the operator's number to the second; words that are not named stay.
abbrev pub FindsFault : Task → List ℕ → Outcome PairFault → Type 0
FindsFault T room outcome =
    (Good T (listed T.pairs) × (outcome ≡ writes no_fault [] room))
    ⊎ (((f : ℕ) × LeastHeld T f × (outcome ≡ writes start_holds (f ∷ []) room))
    ⊎ ((f : ℕ) × (j : ℕ) × LeastUnclosed T j f × (outcome ≡ writes operator_breaks (f ∷ j ∷ []) room)))

-- pair_fault(task, room): 1 to 5, then 8.
abbrev pub FaultsPairs : List ℕ → List ℕ → Outcome PairFault → Type 0
FaultsPairs task room outcome =
    by_read (task_of task 0)
    (λ T. cond (ltb (length room) fault_words) (outcome ≡ refuses Small room) (FindsFault T room outcome))
    (λ reason. outcome ≡ refuses reason room)

-- What the core is lent, and the parts of the task file in the turns in which they are written.
use Rattle.std.specs.Prelude.{ℕ, ◌+◌, ◌-◌, ◌*◌, ◌≤◌, ◌≡◌, Bool, cond, List, [], ◌∷◌, length, get_or, eqb, ltb}
use Rattle.meaning.specs.Sets.{flat, count}
use Rattle.meaning.specs.Limits.{least_slots, most_slots}
use Rattle.meaning.specs.Task.{Operator, Task, State}
use Rattle.meaning.specs.Feature.{double}
use Rattle.meaning.specs.Number.{Gaps, Unequal}
use Rattle.meaning.specs.File.{operator_bytes, task_bytes}
use Rattle.meaning.specs.Answer.{Outcome, delivered, refuses}
use Rattle.meaning.specs.Bay.{bay_sizes, one_gap, equal_lots, occurs_in, once_in, slide, bay_operators, bay_pairs, task_for}
use Rattle.words.specs.Members.{members_in}
use Rattle.writer.specs.Parts.{FewWords}

-- ---- what is lent

-- Place p * n + q of a table says by 1 that a pallet may slide from q into a gap at p.
abbrev pub near_in : List ℕ → ℕ → ℕ → ℕ → Bool
near_in table n p q = eqb (get_or table (p * n + q) 0) 1

-- A table of neighbours, and the labels of as many slots.
pub record Slots (near labels : List ℕ) : Type 0 where
  pub least : least_slots ≤ length labels
  pub most : length labels ≤ most_slots
  pub square : length near ≡ length labels * length labels
  pub state : State (bay_sizes (length labels)) labels

-- The sizes of their task.
abbrev pub Uniform : List ℕ → Type 0
Uniform sizes = (sizes ≡ bay_sizes (length sizes)) × (length sizes ≤ most_slots)

-- How many places of a table say that a pallet may slide, and how many labels from 1 on occur.
abbrev pub places_in : List ℕ → ℕ
places_in near = count (length near) (λ place. eqb (get_or near place 0) 1)

abbrev pub lots_in : List ℕ → ℕ
lots_in start = count (length start - 1) (λ k. occurs_in start (k + 1))

-- ---- the task

abbrev pub operators_in : List ℕ → List ℕ → List Operator
operators_in near start = bay_operators (length start) (near_in near (length start)) (occurs_in start)

abbrev pub task_in : List ℕ → List ℕ → List ℕ → Task
task_in near start goal = task_for (length start) (near_in near (length start)) start goal

-- What comes of slots: labels are judged, then the room.
unfoldable pub built_in : List ℕ → List ℕ → List ℕ → List ℕ → Outcome ℕ
built_in near start goal room =
    cond (one_gap start)
    (cond (one_gap goal) (cond (equal_lots (length start) start goal) (delivered (task_bytes (task_in near start goal)) room) (refuses Unequal room)) (refuses Gaps room))
    (refuses Gaps room)

-- What the task file is written from: the pairs are in words.
pub record TaskParts (near sizes start goal pairs : List ℕ) : Type 0 where
  pub slots : Slots near start
  pub is-goal : State (bay_sizes (length start)) goal
  pub all-sizes : sizes ≡ bay_sizes (length start)
  pub few_words : FewWords pairs
  pub all-pairs : members_in pairs ≡ bay_pairs (length start) (once_in start)

-- ---- pairs

-- The feature that puts a label in the slots i and j, if the label occurs once.
unfoldable pub label_pair : ℕ → List ℕ → ℕ → ℕ → ℕ → List ℕ
label_pair n start i j label = cond (once_in start label) (double (bay_sizes n) i label j label ∷ []) []

-- Those of all labels, where i is a slot before j; those with slot i as the first.
unfoldable pub label_pairs : ℕ → List ℕ → ℕ → ℕ → List ℕ
label_pairs n start i j = cond (ltb i j) (flat n (label_pair n start i j)) []

unfoldable pub slot_pairs : ℕ → List ℕ → ℕ → List ℕ
slot_pairs n start i = flat n (label_pairs n start i)

-- ---- operators

-- The bytes of the operator that slides a pallet t from q into the gap at p, if t occurs.
unfoldable pub lot_bytes : List ℕ → ℕ → ℕ → ℕ → List ℕ
lot_bytes start p q t = cond (occurs_in start t) (operator_bytes (slide p q t)) []

-- Those of all labels from 1, where the two are neighbours; those with the gap at p; and all.
unfoldable pub slide_bytes : List ℕ → List ℕ → ℕ → ℕ → List ℕ
slide_bytes near start p q = cond (near_in near (length start) p q) (flat (length start - 1) (λ k. lot_bytes start p q (k + 1))) []

unfoldable pub gap_bytes : List ℕ → List ℕ → ℕ → List ℕ
gap_bytes near start p = flat (length start) (slide_bytes near start p)

unfoldable pub walk_bytes : List ℕ → List ℕ → List ℕ
walk_bytes near start = flat (length start) (gap_bytes near start)

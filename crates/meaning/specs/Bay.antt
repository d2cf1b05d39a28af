-- Bays: what a bay file says, what a move is, and the task of a bay.
use Rattle.std.specs.Prelude.{ℕ, suc, ◌+◌, ◌-◌, ◌*◌, ◌/◌, ◌%◌, ◌<◌, ◌≡◌, ◌≢◌, Bool, true, ◌&&◌, ◌||◌, cond, length, set, replicate, eqb, ltb}
use mathlib.Core.List.{List, [], ◌∷◌, Memᴰ as In}
use Rattle.meaning.specs.Sets.{every, flat}
use Rattle.meaning.specs.Limits.{least_side, most_side, least_slots, most_slots}
use Rattle.meaning.specs.Task.{Operator, Task, applies, applied, value}
use Rattle.meaning.specs.Feature.{double}
use Rattle.meaning.specs.Number.{Limit, Gaps, Unequal, Read, got, fault, on_read}
use Rattle.meaning.specs.File.{Parser, give, then, inside, item, limited, ended, values_of, task_bytes}
use Rattle.meaning.specs.Answer.{Outcome, refuses, delivered, by_read}

pub record Bay : Type 0 where
  pub rows : ℕ
  pub columns : ℕ
  pub start : List ℕ
  pub goal : List ℕ

-- ---- the file

-- "rows times columns, n"
abbrev pub slot_count : Bay → ℕ
slot_count b = b.rows * b.columns

-- n variables of size n.
abbrev pub bay_sizes : ℕ → List ℕ
bay_sizes n = replicate n n

-- A side of a bay.
abbrev pub side : Parser ℕ
side = item (inside least_side (suc most_side)) Limit

-- Rows and columns: "n is 2" to 16 "and is judged after columns". (Document 01 said: "n is 2 to 9".)
unfoldable pub sides_of : Parser (ℕ × ℕ)
sides_of =
    limited (then side (λ r. then side (λ c. give (r, c)))) (λ sides. inside least_slots (suc most_slots) (sides.0 * sides.1)) (λ _. 1)

-- "A bay file holds rows, columns, the start labels and the goal labels, slots row by row. .. Labels run from 0 to n-1".
unfoldable pub bay_of : Parser Bay
bay_of =
    then sides_of
    (λ sides. then (values_of (bay_sizes (sides.0 * sides.1)))
    (λ start. then (values_of (bay_sizes (sides.0 * sides.1)))
    (λ goal. then ended (λ _. give (record { rows = sides.0; columns = sides.1; start = start; goal = goal })))))

-- How often a label stands in a list.
unfoldable pub occurrences : ℕ → List ℕ → ℕ
occurrences label [] = 0
occurrences label (x ∷ xs) = cond (eqb x label) 1 0 + occurrences label xs

-- "Bay labels are lots from now on and may repeat; the gap still occurs once." (Document 01 said: "each once in each list", "No two pallets are alike".)
unfoldable pub one_gap : List ℕ → Bool
one_gap labels = eqb (occurrences 0 labels) 1

-- "Start and goal must hold each label equally often."
unfoldable pub equal_lots : ℕ → List ℕ → List ℕ → Bool
equal_lots n start goal = every n (λ label. eqb (occurrences label start) (occurrences label goal))

-- What was read of n slots, with labels in its start and its goal: "10 now means no gap or more than one, in the start and then in the goal; 11, after 10, means
-- unequal lots". (Document 01 said: "(10, judged start first, after 5 and before 8)".)
unfoldable pub judged_lots : {A : Type 0} → ℕ → List ℕ → List ℕ → Read A → Read A
judged_lots n start goal whole = cond (one_gap start) (cond (one_gap goal) (cond (equal_lots n start goal) whole (fault Unequal 0)) (fault Gaps 0)) (fault Gaps 0)

-- A bay file that was read whole: after 5 and before 8.
unfoldable pub judged_bay : List ℕ → Read Bay
judged_bay bytes = on_read (bay_of bytes 0) (λ b next. judged_lots (slot_count b) b.start b.goal (got b next))

-- Whether a label occurs in a list, and whether it occurs once.
abbrev pub occurs_in : List ℕ → ℕ → Bool
occurs_in labels label = ltb 0 (occurrences label labels)

abbrev pub once_in : List ℕ → ℕ → Bool
once_in labels label = eqb (occurrences label labels) 1

-- ---- moves

abbrev pub one_apart : ℕ → ℕ → Bool
one_apart a b = eqb a (suc b) || eqb b (suc a)

-- "Neighbours share a side": one row and columns one apart, or one column and rows one apart.
unfoldable pub neighbours : ℕ → ℕ → ℕ → Bool
neighbours columns p q =
    (eqb (p / columns) (q / columns) && one_apart (p % columns) (q % columns))
    || (eqb (p % columns) (q % columns) && one_apart (p / columns) (q / columns))

-- "A move slides a neighbouring pallet into the gap." A pallet is a label other than 0; any neighbour relation will do.
pub record Move (n : ℕ) (near : ℕ → ℕ → Bool) (state next : List ℕ) : Type 0 where
  pub gap : ℕ
  pub slot : ℕ
  pub gap-place : gap < n
  pub slot-place : slot < n
  pub beside : near gap slot ≡ true
  pub is-gap : value state gap ≡ 0
  pub is-pallet : value state slot ≢ 0
  pub result : next ≡ set (set state gap (value state slot)) slot 0

-- One operator of a list leads from a state to the next.
pub record Step (operators : List Operator) (state next : List ℕ) : Type 0 where
  pub by : Operator
  pub has : In by operators
  pub able : applies by state ≡ true
  pub result : next ≡ applied by state

-- A "state that holds the start's labels, each as often".
pub record SameLabels (start state : List ℕ) : Type 0 where
  pub as_long : length state ≡ length start
  pub as-often : (label : ℕ) → occurrences label state ≡ occurrences label start

-- ---- the task

-- Slots i < j exchange the labels a and b.
abbrev pub exchange : ℕ → ℕ → ℕ → ℕ → Operator
exchange i j a b = record { variable = i; before = a; after = b } ∷ record { variable = j; before = b; after = a } ∷ []

-- "p goes from 0 to t, q from t to 0, entries by slot number"
unfoldable pub slide : ℕ → ℕ → ℕ → Operator
slide p q t = cond (ltb p q) (exchange p q 0 t) (exchange q p t 0)

-- "Operators: for each slot p with the gap, each neighbour q in increasing order, each label t from 1", and "an operator is made for each label that occurs".
unfoldable pub bay_operators : ℕ → (ℕ → ℕ → Bool) → (ℕ → Bool) → List Operator
bay_operators n near occurs =
    flat n (λ p. flat n (λ q. cond (near p q) (flat (n - 1) (λ k. cond (occurs (suc k)) (slide p q (suc k) ∷ []) [])) []))

-- "lists as pairs all features that put one label in two slots", and "Only labels that occur once give exclusive pairs".
unfoldable pub bay_pairs : ℕ → (ℕ → Bool) → List ℕ
bay_pairs n once =
    flat n (λ i. flat n (λ j. cond (ltb i j) (flat n (λ label. cond (once label) (double (bay_sizes n) i label j label ∷ []) [])) []))

-- "The task has n variables of size n". What occurs is judged in the start, and the goal holds the same.
unfoldable pub task_for : ℕ → (ℕ → ℕ → Bool) → List ℕ → List ℕ → Task
task_for n near start goal =
    record { sizes = bay_sizes n; start = start; goal = goal; pairs = bay_pairs n (once_in start); operators = bay_operators n near (occurs_in start) }

-- The task of a bay.
abbrev pub bay_task : Bay → Task
bay_task b = task_for (slot_count b) (neighbours b.columns) b.start b.goal

-- build(bay, room): the task file of the bay.
abbrev pub Builds : List ℕ → List ℕ → Outcome ℕ → Type 0
Builds bay room outcome =
    by_read (judged_bay bay) (λ b. outcome ≡ delivered (task_bytes (bay_task b)) room) (λ reason. outcome ≡ refuses reason room)

-- Orders that name some slots: partial goals, the full task that is built for one by forgetting operators, the partial task file, and its calls. Sentences in quotes
-- are document 02's, ticket 1.
use Rattle.std.specs.Prelude.{ℕ, suc, ◌<◌, ◌≤◌, ◌≡◌, Bool, true, not, ◌&&◌, ◌||◌, cond, length, replicate, eqb, leb, ltb}
use mathlib.Core.List.{List, [], ◌∷◌, ◌++◌, map, Memᴰ as In}
use Rattle.meaning.specs.Sets.{Set, some, flat, table, listed, all_of}
use Rattle.meaning.specs.Limits.{least_variables, most_variables, least_partial_size, most_partial_size, most_features, number_end}
use Rattle.meaning.specs.Task.{Operator, Task, State, IsOperator, Run, value, size}
use Rattle.meaning.specs.Feature.{atoms, features, double}
use Rattle.meaning.specs.Pair.{paired}
use Rattle.meaning.specs.Weight.{Leads}
use Rattle.meaning.specs.Number.{Range, Outgrown, Read, fault, on_read, number, number_bytes}
use Rattle.meaning.specs.File.{Parser, give, then, inside, item, limited, ended, items_of, size_list, values_of, plain, gapped, feature_list, operators_of, judged_pairs, judged_task, bytes_of, counted, operator_bytes, weight_bytes, task_bytes}
use Rattle.meaning.specs.Answer.{Answer, Outcome, Verdict, Judged, fine, faulty, need, values_judged, refuses, delivered, by_read, OpensAs, ChecksAs}
use Rattle.meaning.specs.Bay.{SameLabels}

-- ---- partial tasks

-- A task with a partial goal. Its sizes are the file's, without "unknown". Where the order is silent the goal has the variable's size, which is none of its
-- values: "the new goal has 'unknown' where the order is silent".
pub record Partial : Type 0 where
  pub sizes : List ℕ
  pub start : List ℕ
  pub goal : List ℕ
  pub pairs : List ℕ
  pub operators : List Operator

-- The order names a variable.
unfoldable pub named : Partial → ℕ → Bool
named P i = ltb (value P.goal i) (size P.sizes i)

-- A state meets the partial goal: it has the goal's value of every variable that is named.
abbrev pub MeetsGoal : Partial → List ℕ → Type 0
MeetsGoal P state = (i : ℕ) → i < length P.sizes → named P i ≡ true → value state i ≡ value P.goal i

-- A sequence of these operators leads from one state to another.
abbrev pub Reaches : List Operator → List ℕ → List ℕ → Type 0
Reaches operators from to = (plan : List Operator) × ((o : Operator) → In o plan → In o operators) × Leads plan from to

-- "the partial goal is" reached: a state that meets it is, by the file's operators.
abbrev pub Met : Partial → Type 0
Met P = (state : List ℕ) × Reaches P.operators P.start state × MeetsGoal P state

-- A way to fill the silent slots of a bay: it holds the start's labels, each as often, and meets the partial goal.
pub record Completes (P : Partial) (state : List ℕ) : Type 0 where
  pub labels : SameLabels P.start state
  pub meets : MeetsGoal P state

-- ---- the built task

-- "each variable gets one extra value, 'unknown', as its highest": the file's size is its number.
abbrev pub built_sizes : List ℕ → List ℕ
built_sizes sizes = map suc sizes

-- What a function gives for each two atoms of different variables, in the order of their numbers.
unfoldable pub each_pair : {A : Type 0} → List ℕ → (ℕ → ℕ → ℕ → ℕ → List A) → List A
each_pair sizes g =
    flat (length sizes)
    (λ i. flat (length sizes) (λ j. cond (ltb i j) (flat (size sizes i) (λ x. flat (size sizes j) (λ y. g i x j y))) []))

-- "Listed pairs keep their atoms but get new feature numbers."
unfoldable pub built_pairs : List ℕ → Set → List ℕ
built_pairs sizes pairs =
    each_pair sizes (λ i x j y. cond (pairs (double sizes i x j y)) (double (built_sizes sizes) i x j y ∷ []) [])

-- "an operator from each old value to it"
abbrev pub forgetting : List ℕ → ℕ → ℕ → Operator
forgetting sizes i x = record { variable = i; before = x; after = size sizes i } ∷ []

-- The forgetting operators "by variable and value", without those that a test leaves out.
unfoldable pub forgettings : List ℕ → (ℕ → ℕ → Bool) → List Operator
forgettings sizes out = flat (length sizes) (λ i. flat (size sizes i) (λ x. cond (out i x) [] (forgetting sizes i x ∷ [])))

-- "The file's operators come first, then the forgetting ones".
unfoldable pub built_task : Partial → (ℕ → ℕ → Bool) → Task
built_task P out =
    record {
      sizes = built_sizes P.sizes;
      start = P.start;
      goal = P.goal;
      pairs = built_pairs P.sizes (listed P.pairs);
      operators = P.operators ++ forgettings P.sizes out;
    }

-- ---- what is left out

-- A value is listed as exclusive with the goal value of some variable that is named.
unfoldable pub against_goal : Partial → ℕ → ℕ → Bool
against_goal P i x =
    some (length P.sizes) (λ j. named P j && paired P.sizes (listed P.pairs) i x j (value P.goal j))

-- "Leave out a forgetting operator where source 002's section 5.2 permits it, judged with the listed pairs": "1. {V -> unknown} is a goal fact. 2. {V -> v} is mutex
-- with at least one goal fact. 3. For every operator o with {V -> unknown} in pre(o) ..": no operator has "unknown" before.
unfoldable pub left_out : Partial → ℕ → ℕ → Bool
left_out P i x = not (named P i) && against_goal P i x

-- The lean task leaves out those of the variables that are named too: none of their values need be forgotten.
unfoldable pub left_out_lean : Partial → ℕ → ℕ → Bool
left_out_lean P i x = named P i || against_goal P i x

-- ---- the file

-- "Its sizes, 1 to 63, are the old ones"; "limits .. apply to the built task": its N is judged after the last size.
unfoldable pub partial_header : Parser (List ℕ)
partial_header = limited (size_list least_partial_size most_partial_size) (λ sizes. leb (features (built_sizes sizes)) most_features) length

-- "a mark per variable after the sizes: 0 for silent, 1 for named"; "a mark above 1 is 3".
abbrev pub marks_of : ℕ → Parser (List ℕ)
marks_of v = items_of 0 Range (replicate v 2)

-- A goal value for each variable that is marked; "silent ones have no goal value".
unfoldable pub goal_of : List ℕ → List ℕ → Parser (List ℕ)
goal_of [] marks = give []
goal_of (d ∷ ds) [] = give []
goal_of (d ∷ ds) (m ∷ ms) =
    then (cond (eqb m 1) (item (inside 0 d) Range) (give d)) (λ x. then (goal_of ds ms) (λ xs. give (x ∷ xs)))

-- The rest as in a task file of the old kind: "values and pair features count by" the old sizes.
unfoldable pub partial_of : Parser Partial
partial_of =
    then partial_header
    (λ sizes. then (marks_of (length sizes))
    (λ marks. then (values_of sizes)
    (λ start. then (goal_of sizes marks)
    (λ goal. then (feature_list plain (atoms sizes) (features sizes))
    (λ pairs. then number
    (λ k. then (operators_of sizes k)
    (λ operators. then ended
    (λ _. give (record { sizes = sizes; start = start; goal = goal; pairs = pairs; operators = operators })))))))))

-- The task that is built for a partial file: "more operators kept than a number can count is 2, judged after 5"; "6 and 7 apply to the built task".
unfoldable pub judged_partial : (Partial → ℕ → ℕ → Bool) → List ℕ → Read Task
judged_partial out bytes =
    on_read (partial_of bytes 0)
    (λ P next. cond (ltb (length (built_task P (out P)).operators) number_end)
    (judged_pairs (built_task P (out P)) next)
    (fault Outgrown 0))

-- ---- partial tasks in order, and their bytes

-- What a partial file that was read says.
pub record Ordered (P : Partial) : Type 0 where
  pub variables : (least_variables ≤ length P.sizes) × (length P.sizes ≤ most_variables)
  pub each : (i : ℕ) → i < length P.sizes → (least_partial_size ≤ size P.sizes i) × (size P.sizes i ≤ most_partial_size)
  pub total : features (built_sizes P.sizes) ≤ most_features
  pub start : State P.sizes P.start
  pub goal : State (built_sizes P.sizes) P.goal
  pub pairs : Run (atoms P.sizes) P.pairs (features P.sizes)
  pub operators : (o : Operator) → In o P.operators → IsOperator P.sizes o

-- The mark of each variable.
unfoldable pub marks_in : List ℕ → List ℕ → List ℕ
marks_in [] goal = []
marks_in (d ∷ ds) [] = []
marks_in (d ∷ ds) (g ∷ gs) = cond (ltb g d) 1 0 ∷ marks_in ds gs

-- The goal values of the variables that are named.
unfoldable pub named_in : List ℕ → List ℕ → List ℕ
named_in [] goal = []
named_in (d ∷ ds) [] = []
named_in (d ∷ ds) (g ∷ gs) = cond (ltb g d) (g ∷ []) [] ++ named_in ds gs

unfoldable pub partial_bytes : Partial → List ℕ
partial_bytes P =
    counted number_bytes P.sizes
    ++ (bytes_of number_bytes (marks_in P.sizes P.goal)
    ++ (bytes_of number_bytes P.start
    ++ (bytes_of number_bytes (named_in P.sizes P.goal)
    ++ (weight_bytes P.pairs ++ counted operator_bytes P.operators))))

-- ---- the calls

-- open_partial(partial, room), check_partial(partial, weights): "Demands 2 and 3 read on the built task with the operators it kept."
abbrev pub OpensPartial : List ℕ → List ℕ → Outcome ℕ → Type 0
OpensPartial file = OpensAs (judged_partial left_out file)

abbrev pub ChecksPartial : List ℕ → List ℕ → Answer Verdict → Type 0
ChecksPartial file = ChecksAs plain (judged_partial left_out file)

-- check_partial_new(partial, weights)
abbrev pub ChecksPartialNew : List ℕ → List ℕ → Answer Verdict → Type 0
ChecksPartialNew file = ChecksAs gapped (judged_partial left_out file)

-- The built task as a task file.
abbrev pub BuildsBy : (Partial → ℕ → ℕ → Bool) → List ℕ → List ℕ → Outcome ℕ → Type 0
BuildsBy out file room outcome =
    by_read (judged_partial out file) (λ T. outcome ≡ delivered (task_bytes T) room) (λ reason. outcome ≡ refuses reason room)

-- build_partial(partial, room), build_partial_lean(partial, room)
abbrev pub BuildsPartial : List ℕ → List ℕ → Outcome ℕ → Type 0
BuildsPartial = BuildsBy left_out

abbrev pub BuildsPartialLean : List ℕ → List ℕ → Outcome ℕ → Type 0
BuildsPartialLean = BuildsBy left_out_lean

-- ---- the partial file of a task

-- The partial task that names of a task's goal what the marks say.
unfoldable pub silenced : Task → List ℕ → Partial
silenced T marks =
    record {
      sizes = T.sizes;
      start = T.start;
      goal = table (length T.sizes) (λ i. cond (eqb (value marks i) 1) (value T.goal i) (size T.sizes i));
      pairs = T.pairs;
      operators = T.operators;
    }

-- The number of the marks, each mark, then the partial file's own limits.
unfoldable pub marks_judged : Task → List ℕ → Judged
marks_judged T marks =
    need (eqb (length marks) (length T.sizes)) Range
    (values_judged (replicate (length T.sizes) 2) marks
    (need (all_of (λ d. leb d most_partial_size) T.sizes && leb (features (built_sizes T.sizes)) most_features) Outgrown fine))

abbrev pub silences_by : Judged → Partial → List ℕ → Outcome ℕ
silences_by fine P room = delivered (partial_bytes P) room
silences_by (faulty reason) P room = refuses reason room

-- silence(task, marks, room): the task wholly, then the marks, then 8.
abbrev pub Silences : List ℕ → List ℕ → List ℕ → Outcome ℕ → Type 0
Silences task marks room outcome =
    by_read (judged_task task)
    (λ T. outcome ≡ silences_by (marks_judged T marks) (silenced T marks) room)
    (λ reason. outcome ≡ refuses reason room)

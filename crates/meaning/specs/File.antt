-- Task files and weight files, of the old kind and the new (document 02, ticket 7): what is judged, in which order, with which outcome; and the bytes of a task and of a weight list.
use Rattle.std.specs.Prelude.{ℕ, zero, suc, ◌+◌, ◌-◌, ◌<◌, ◌≤◌, ◌≡◌, Bool, true, false, ◌&&◌, cond, length, replicate, eqb, leb, ltb}
use mathlib.Core.List.{List, [], ◌∷◌, ◌++◌, Memᴰ as In}
use Rattle.meaning.specs.Sets.{listed, all_of}
use Rattle.meaning.specs.Limits.{least_variables, most_variables, least_size, most_size, most_features, number_end}
use Rattle.meaning.specs.Task.{Entry, Operator, Task, State, IsOperator, Run, size}
use Rattle.meaning.specs.Feature.{atoms, features}
use Rattle.meaning.specs.Pair.{closed, holds}
use Rattle.meaning.specs.Number.{Reason, Limit, Range, Unordered, LeftOver, Held, Unclosed, Read, got, fault, on_read, number, numbers_on, number_bytes}

-- ---- reading in turn: "Numbers are judged as read", and the first fault decides

abbrev pub Parser : Type 0 → Type 0
Parser A = List ℕ → ℕ → Read A

abbrev pub give : {A : Type 0} → A → Parser A
give a bytes place = got a place

abbrev pub then : {A B : Type 0} → Parser A → (A → Parser B) → Parser B
then first rest bytes place = on_read (first bytes place) (λ a next. rest a bytes next)

-- From `low` on and below `high`.
abbrev pub inside : ℕ → ℕ → ℕ → Bool
inside low high n = leb low n && ltb n high

-- A number that has to pass a test.
unfoldable pub item : (ℕ → Bool) → Reason → Parser ℕ
item test reason bytes place = on_read (number bytes place) (λ n next. cond (test n) (got n next) (fault reason place))

-- A test of what has been read so far.
unfoldable pub judge : Bool → Reason → Parser (Unit {0})
judge true reason bytes place = got tt place
judge false reason bytes place = fault reason place

-- A limit over several numbers is judged after the last of them, and placed there: at the number that is so many behind the first.
unfoldable pub limited : {A : Type 0} → Parser A → (A → Bool) → (A → ℕ) → Parser A
limited first test behind bytes place =
    on_read (first bytes place) (λ a next. cond (test a) (got a next) (fault Limit (numbers_on (behind a) bytes place)))

-- A number in its range that is `least` or more: range before order.
unfoldable pub rising : ℕ → ℕ → ℕ → Parser ℕ
rising low high least bytes place =
    on_read (item (inside low high) Range bytes place) (λ n next. cond (leb least n) (got n next) (fault Unordered place))

-- "Nothing follows."
unfoldable pub ended : Parser (Unit {0})
ended bytes place = judge (leb (length bytes) place) LeftOver bytes place

-- A number for each bound, from `low` on and below it.
unfoldable pub items_of : ℕ → Reason → List ℕ → Parser (List ℕ)
items_of low reason [] = give []
items_of low reason (bound ∷ bounds) =
    then (item (inside low bound) reason) (λ n. then (items_of low reason bounds) (λ ns. give (n ∷ ns)))

-- ---- the kinds of files

-- The old kind has its features as they are, the new one "as the first number and then each gap less one".
pub data Kind : Type 0 where
  plain gapped : Kind

abbrev pub kind_if : Bool → Kind
kind_if false = plain
kind_if true = gapped

abbrev pub other : Kind → Kind
other plain = gapped
other gapped = plain

-- "The new task file starts with the number 0"; "a first number other than 0 where the new kind is due is 3". An old file has no mark.
unfoldable pub mark_of : Kind → Parser (Unit {0})
mark_of plain = give tt
mark_of gapped = then (item (inside 0 1) Range) (λ _. give tt)

-- "either kind of task file, by its first number"
abbrev pub kind_by : Read ℕ → Kind
kind_by (got n next) = kind_if (eqb n 0)
kind_by (fault reason place) = plain

unfoldable pub kind_of : List ℕ → ℕ → Kind
kind_of bytes place = kind_by (number bytes place)

-- ---- the parts of a task file

-- So many sizes, each from `least` to `most`.
abbrev pub sizes_of : ℕ → ℕ → ℕ → Parser (List ℕ)
sizes_of least most v = items_of least Limit (replicate v (suc most))

-- "v; sizes", each within its limit.
unfoldable pub size_list : ℕ → ℕ → Parser (List ℕ)
size_list least most = then (item (inside least_variables (suc most_variables)) Limit) (sizes_of least most)

-- "N is judged after the last size", which is v numbers behind v.
unfoldable pub header : ℕ → ℕ → Parser (List ℕ)
header least most = limited (size_list least most) (λ sizes. leb (features sizes) most_features) length

-- "start; goal": a value for each variable.
abbrev pub values_of : List ℕ → Parser (List ℕ)
values_of sizes = items_of 0 Range sizes

-- The next feature of a list that has to be `least` or more, which is 0 for the first: it stands there itself; or how far it is above that, and "a gap list whose sum passes
-- the range is 3".
unfoldable pub feature_of : Kind → ℕ → ℕ → ℕ → Parser ℕ
feature_of plain low high least = rising low high least
feature_of gapped low high least =
    λ bytes place.
    on_read (number bytes place) (λ n next. cond (inside low high (least + n)) (got (least + n) next) (fault Range place))

-- So many features in a range, "strictly increasing".
unfoldable pub features_of : Kind → ℕ → ℕ → ℕ → ℕ → Parser (List ℕ)
features_of kind zero low high least = give []
features_of kind (suc k) low high least =
    then (feature_of kind low high least) (λ f. then (features_of kind k low high (suc f)) (λ fs. give (f ∷ fs)))

-- "count and features": the pairs of a task, and a weight list.
unfoldable pub feature_list : Kind → ℕ → ℕ → Parser (List ℕ)
feature_list kind low high = then number (λ k. features_of kind k low high 0)

-- So many triples, their variables increasing.
unfoldable pub entries_of : List ℕ → ℕ → ℕ → Parser Operator
entries_of sizes zero least = give []
entries_of sizes (suc k) least =
    then (rising 0 (length sizes) least)
    (λ i. then (item (inside 0 (size sizes i)) Range)
    (λ x. then (item (inside 0 (size sizes i)) Range)
    (λ y. then (entries_of sizes k (suc i)) (λ es. give (record { variable = i; before = x; after = y } ∷ es)))))

-- "each operator as entry count and then its triples"; the entry count is 1 to v.
unfoldable pub operator_of : List ℕ → Parser Operator
operator_of sizes = then (item (inside 1 (suc (length sizes))) Range) (λ k. entries_of sizes k 0)

unfoldable pub operators_of : List ℕ → ℕ → Parser (List Operator)
operators_of sizes zero = give []
operators_of sizes (suc k) = then (operator_of sizes) (λ o. then (operators_of sizes k) (λ os. give (o ∷ os)))

-- "A task file: v; sizes; start; goal; pair count and pair features, strictly increasing; operator count; each operator as entry count and
-- then its triples. .. Nothing follows." What stands behind the sizes, and what stands behind the mark of a kind.
unfoldable pub body_of : Kind → List ℕ → Parser Task
body_of kind sizes =
    then (values_of sizes)
    (λ start. then (values_of sizes)
    (λ goal. then (feature_list kind (atoms sizes) (features sizes))
    (λ pairs. then number
    (λ k. then (operators_of sizes k)
    (λ operators. then ended
    (λ _. give (record { sizes = sizes; start = start; goal = goal; pairs = pairs; operators = operators })))))))

unfoldable pub parts_of : Kind → Parser Task
parts_of kind = then (header least_size most_size) (body_of kind)

-- A task file of one kind.
unfoldable pub task_as : Kind → Parser Task
task_as kind = then (mark_of kind) (λ _. parts_of kind)

-- "Readers take either kind of task file, by its first number".
unfoldable pub task_of : Parser Task
task_of bytes place = task_as (kind_of bytes place) bytes place

-- "Then come 5, 6, 7 by operator": a start that holds a pair, an operator under which the pairs are not closed. Neither has a place.
abbrev pub judged_pairs : Task → ℕ → Read Task
judged_pairs T next =
    cond (holds T.sizes (listed T.pairs) T.start)
    (fault Held 0)
    (cond (all_of (closed T.sizes (listed T.pairs)) T.operators) (got T next) (fault Unclosed 0))

-- A task file is judged from its first byte on: one of either kind, and one of the kind that is due.
unfoldable pub judged_task : List ℕ → Read Task
judged_task bytes = on_read (task_of bytes 0) judged_pairs

unfoldable pub judged_as : Kind → List ℕ → Read Task
judged_as kind bytes = on_read (task_as kind bytes 0) judged_pairs

-- "A weight file: count and features, strictly increasing. Nothing follows." The features of a task with n features. "A new weight file also begins with 0; in it the count
-- follows."
unfoldable pub judged_weights_as : Kind → ℕ → List ℕ → Read (List ℕ)
judged_weights_as kind n bytes = then (mark_of kind) (λ _. then (feature_list kind 0 n) (λ weights. then ended (λ _. give weights))) bytes 0

abbrev pub judged_weights : ℕ → List ℕ → Read (List ℕ)
judged_weights = judged_weights_as plain

-- ---- tasks that can be accepted, and their bytes

-- "Limits: v 1 to 64; d 1 to 64"; "N may reach 32,768" (document 01 said: "N at most 4,096"). Whatever is said of states and features holds for every size above 0.
pub record InLimits (sizes : List ℕ) : Type 0 where
  pub variables : (least_variables ≤ length sizes) × (length sizes ≤ most_variables)
  pub each : (i : ℕ) → i < length sizes → (0 < size sizes i) × (size sizes i ≤ most_size)
  pub total : features sizes ≤ most_features

-- The least size that task files and workspaces take.
abbrev pub Taken : List ℕ → Type 0
Taken sizes = (i : ℕ) → i < length sizes → least_size ≤ size sizes i

-- A task that keeps every rule of document 01.
pub record Acceptable (T : Task) : Type 0 where
  pub limits : InLimits T.sizes
  pub taken : Taken T.sizes
  pub start : State T.sizes T.start
  pub goal : State T.sizes T.goal
  pub pairs : Run (atoms T.sizes) T.pairs (features T.sizes)
  pub operators : (o : Operator) → In o T.operators → IsOperator T.sizes o
  pub free : holds T.sizes (listed T.pairs) T.start ≡ false
  pub closed-under : (o : Operator) → In o T.operators → closed T.sizes (listed T.pairs) o ≡ true

-- "provided such a task can be written": its operators can be counted by a number of a file.
pub record Writable (T : Task) : Type 0 where
  pub acceptable : Acceptable T
  pub countable : length T.operators < number_end

-- The bytes of several things, one after another.
unfoldable pub bytes_of : {A : Type 0} → (A → List ℕ) → List A → List ℕ
bytes_of write [] = []
bytes_of write (a ∷ l) = write a ++ bytes_of write l

-- A list with its count in front.
unfoldable pub counted : {A : Type 0} → (A → List ℕ) → List A → List ℕ
counted write l = number_bytes (length l) ++ bytes_of write l

unfoldable pub entry_bytes : Entry → List ℕ
entry_bytes e = number_bytes e.variable ++ (number_bytes e.before ++ number_bytes e.after)

unfoldable pub operator_bytes : Operator → List ℕ
operator_bytes o = counted entry_bytes o

-- A count and numbers: the pairs of a task and a whole weight file, of the old kind.
unfoldable pub weight_bytes : List ℕ → List ℕ
weight_bytes weights = counted number_bytes weights

-- How far each feature is above the least that it can be: the first number, and then each gap less one.
unfoldable pub gaps_from : ℕ → List ℕ → List ℕ
gaps_from least [] = []
gaps_from least (f ∷ fs) = (f - least) ∷ gaps_from (suc f) fs

-- The numbers that stand for features.
abbrev pub numbers_for : Kind → ℕ → List ℕ → List ℕ
numbers_for plain least fs = fs
numbers_for gapped least fs = gaps_from least fs

-- A count and features.
unfoldable pub list_bytes : Kind → List ℕ → List ℕ
list_bytes kind fs = weight_bytes (numbers_for kind 0 fs)

abbrev pub mark_bytes : Kind → List ℕ
mark_bytes plain = []
mark_bytes gapped = number_bytes 0

-- A weight file, and a task file, of a kind.
unfoldable pub weight_bytes_as : Kind → List ℕ → List ℕ
weight_bytes_as kind weights = mark_bytes kind ++ list_bytes kind weights

unfoldable pub task_bytes_as : Kind → Task → List ℕ
task_bytes_as kind T =
    mark_bytes kind
    ++ (counted number_bytes T.sizes
    ++ (bytes_of number_bytes T.start
    ++ (bytes_of number_bytes T.goal ++ (list_bytes kind T.pairs ++ counted operator_bytes T.operators))))

abbrev pub task_bytes : Task → List ℕ
task_bytes = task_bytes_as plain

-- How many bytes the file of a task or of a partial task has at most.
use Rattle.std.specs.Prelude.{ℕ, ◌+◌, ◌*◌, ◌<◌, ◌≤◌, ltb, length}
use mathlib.Core.List.{List, [], ◌∷◌, ◌++◌, Memᴰ as In}
use Rattle.std.proofs.Common.{arith, length-append}
use Rattle.meaning.specs.Limits.{most_variables, most_features, most_groups, number_end}
use Rattle.meaning.specs.Task.{Operator, Task, IsOperator, Run}
use Rattle.meaning.specs.Feature.{atoms, features}
use Rattle.meaning.specs.Number.{number_bytes}
use Rattle.meaning.specs.File.{Kind, plain, bytes_of, counted, entry_bytes, operator_bytes, weight_bytes, list_bytes, mark_bytes, weight_bytes_as, task_bytes_as, Writable}
use Rattle.meaning.specs.Partial.{Partial, Ordered, marks_in, named_in, partial_bytes}
use Rattle.theory.specs.Truth.{on, off, test}
use Rattle.theory.specs.NumberBack.{number-bytes-length}
use Rattle.theory.specs.ReadBack.{entries-length}
use Rattle.theory.specs.Run.{run_length}
use Rattle.theory.specs.PartialParts.{features-built}
use Rattle.writer.specs.Widths.{bytes-few, counted-length, numbers-few, list-few, mark-few, features-few, entries-few}

-- An operator with an entry for each of the most variables.
abbrev longest_operator : ℕ
longest_operator = most_groups + 3 * most_groups * most_variables

operator-few : (sizes : List ℕ) (o : Operator) → length sizes ≤ most_variables → IsOperator sizes o → length (operator_bytes o) ≤ longest_operator
unfolding operator_bytes
operator-few sizes o few h = omega (arith, counted-length entry_bytes o, number-bytes-length (length o), entries-few o, entries-length sizes 0 o (omega arith) h.entries)

-- As many of them as a number can count.
abbrev longest_operators : ℕ
longest_operators = most_groups + longest_operator * number_end

operators-few : (sizes : List ℕ) (os : List Operator) → length sizes ≤ most_variables → ((o : Operator) → In o os → IsOperator sizes o) → length os < number_end
    → length (counted operator_bytes os) ≤ longest_operators
operators-few sizes os few is count =
    omega (arith, counted-length operator_bytes os, number-bytes-length (length os), bytes-few operator_bytes longest_operator os (λ o m. operator-few sizes o few (is o m)))

pub pairs-few : (kind : Kind) (low high : ℕ) (pairs : List ℕ) → high ≤ most_features → Run low pairs high → length (list_bytes kind pairs) ≤ most_groups + most_groups * most_features
pairs-few kind low high pairs few r = omega (arith, features-few kind pairs, run_length low high pairs r)

pub weights-few : (kind : Kind) (low high : ℕ) (weights : List ℕ) → high ≤ most_features → Run low weights high → length (weight_bytes_as kind weights) ≤ 1 + (most_groups + most_groups * most_features)
unfolding weight_bytes_as
weights-few kind low high weights few r = omega (arith, length-append (mark_bytes kind) (list_bytes kind weights), mark-few kind, pairs-few kind low high weights few r)

-- Sizes with their count, three lists of as many numbers, pairs and operators.
abbrev pub longest_file : ℕ
longest_file = most_groups + 4 * most_groups * most_variables + (most_groups + most_groups * most_features) + longest_operators

pub task-few : (kind : Kind) (T : Task) → Writable T → length (task_bytes_as kind T) ≤ longest_file
unfolding task_bytes_as
task-few kind T h =
    let ok = h.acceptable in
    let operators = counted operator_bytes T.operators in
    let pairs = list_bytes kind T.pairs ++ operators in
    let goal = bytes_of number_bytes T.goal ++ pairs in
    omega (
      arith,
      length-append (mark_bytes kind) (counted number_bytes T.sizes ++ (bytes_of number_bytes T.start ++ goal)),
      length-append (counted number_bytes T.sizes) (bytes_of number_bytes T.start ++ goal),
      length-append (bytes_of number_bytes T.start) goal,
      length-append (bytes_of number_bytes T.goal) pairs,
      length-append (list_bytes kind T.pairs) operators,
      mark-few kind,
      list-few T.sizes,
      numbers-few T.start,
      numbers-few T.goal,
      ok.start.full,
      ok.goal.full,
      ok.limits.variables,
      pairs-few kind (atoms T.sizes) (features T.sizes) T.pairs ok.limits.total ok.pairs,
      operators-few T.sizes T.operators ok.limits.variables.1 ok.operators h.countable,
    )

-- There is one mark for each variable at most, and one named value.
marks-few : (sizes goal : List ℕ) → length (marks_in sizes goal) ≤ length sizes
unfolding marks_in
marks-few [] goal = omega arith
marks-few (d ∷ ds) [] = omega arith
marks-few (d ∷ ds) (g ∷ gs) = omega (arith, marks-few ds gs)

named-few : (sizes goal : List ℕ) → length (named_in sizes goal) ≤ length sizes
unfolding named_in
named-few [] goal = omega arith
named-few (d ∷ ds) [] = omega arith
named-few (d ∷ ds) (g ∷ gs) = elim (test (ltb g d)) [ on e ↦ rw e (omega (arith, named-few ds gs)) | off e ↦ rw e (omega (arith, named-few ds gs)) ]

pub partial-few : (P : Partial) → Ordered P → length P.operators < number_end → length (partial_bytes P) ≤ longest_file
unfolding partial_bytes list_bytes
partial-few P ok count =
    let marks = marks_in P.sizes P.goal in
    let values = named_in P.sizes P.goal in
    let operators = counted operator_bytes P.operators in
    let pairs = weight_bytes P.pairs ++ operators in
    let goal = bytes_of number_bytes values ++ pairs in
    let start = bytes_of number_bytes P.start ++ goal in
    omega (
      arith,
      length-append (counted number_bytes P.sizes) (bytes_of number_bytes marks ++ start),
      length-append (bytes_of number_bytes marks) start,
      length-append (bytes_of number_bytes P.start) goal,
      length-append (bytes_of number_bytes values) pairs,
      length-append (weight_bytes P.pairs) operators,
      list-few P.sizes,
      numbers-few marks,
      numbers-few P.start,
      numbers-few values,
      marks-few P.sizes P.goal,
      named-few P.sizes P.goal,
      ok.start.full,
      ok.variables,
      pairs-few plain (atoms P.sizes) (features P.sizes) P.pairs (omega (arith, features-built P.sizes, ok.total)) ok.pairs,
      operators-few P.sizes P.operators ok.variables.1 ok.operators count,
    )

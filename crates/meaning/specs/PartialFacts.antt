-- Small facts that pin partial files and their built tasks down, computed. Nothing else builds on them.
use Rattle.std.specs.Prelude.{ℕ, ◌≡◌, refl, Bool, true, false, List, [], ◌∷◌, ltb, length, replicate}
use Rattle.std.proofs.Common.{ap}
use Rattle.meaning.specs.Sets.{listed, any_of, all_of, two_of, some, flat, table}
use Rattle.meaning.specs.Limits.{number_end}
use Rattle.meaning.specs.Task.{Operator, Task, names}
use Rattle.meaning.specs.Feature.{sum_of, pairs_of, atoms, features, pair_start, double, both}
use Rattle.meaning.specs.Pair.{paired, possible, clashing, stuck, idle, clashing_after, uncovered, closed, holds}
use Rattle.meaning.specs.Number.{Limit, Range, LeftOver, Held, Unclosed, Outgrown, refusal, got, fault, groups, number, numbers_on, group_bytes, number_bytes}
use Rattle.meaning.specs.File.{item, judge, rising, ended, items_of, size_list, header, limited, feature_of, features_of, feature_list, entries_of, operator_of, operators_of, kind_of, mark_of, body_of, parts_of, task_as, task_of, judged_task}
use Rattle.meaning.specs.File.{bytes_of, counted, entry_bytes, operator_bytes, weight_bytes, list_bytes, task_bytes_as}
use Rattle.meaning.specs.Answer.{done, Outcome, fine, faulty, values_judged}
use Rattle.meaning.specs.Partial.{Partial, named, each_pair, built_pairs, forgettings, built_task, against_goal, left_out, left_out_lean, partial_header, goal_of, partial_of, judged_partial}
use Rattle.meaning.specs.Partial.{marks_in, named_in, partial_bytes, BuildsPartial, silenced, marks_judged, Silences}

-- To name one of these on an `unfolding` line opens what files are read with, what pairs are judged with, what a task is built with, what bytes are written with.
reading : Unit {0}
unfolding partial_of partial_header limited size_list items_of goal_of feature_list features_of feature_of operators_of operator_of entries_of item judge rising ended number groups numbers_on
    features atoms pairs_of sum_of
reading = tt

pairing : Unit {0}
unfolding pair_start double both paired possible clashing stuck idle clashing_after uncovered closed holds listed any_of all_of two_of some names
pairing = tt

building : Unit {0}
unfolding reading pairing judged_partial built_task built_pairs each_pair forgettings left_out left_out_lean against_goal named flat
building = tt

writing : Unit {0}
unfolding task_bytes_as list_bytes partial_bytes marks_in named_in flat counted bytes_of entry_bytes operator_bytes weight_bytes number_bytes group_bytes
writing = tt

-- ---- the built task

-- Two variables of size 2; 0 is silent, 1 is to have the value 1; start 00; the pair 7 (both 1); one operator that exchanges (0: 1 to 0; 1: 0 to 1).
abbrev exchange : Operator
exchange = record { variable = 0; before = 1; after = 0 } ∷ record { variable = 1; before = 0; after = 1 } ∷ []

-- What follows the goal in each of the files below: the pair and the operator.
abbrev pair_and_move : List ℕ
pair_and_move = 1 ∷ 7 ∷ 1 ∷ 2 ∷ 0 ∷ 1 ∷ 0 ∷ 1 ∷ 0 ∷ 1 ∷ []

abbrev one_named : List ℕ
one_named = 2 ∷ 2 ∷ 2 ∷ 0 ∷ 1 ∷ 0 ∷ 0 ∷ 1 ∷ pair_and_move

-- The operator that forgets a value of a variable of size 2.
abbrev forget : ℕ → ℕ → Operator
forget i x = record { variable = i; before = x; after = 2 } ∷ []

-- The built task for such a file, by its goal and by what is kept: the file's operator comes first, and the pair has the number 10.
abbrev built : ℕ → ℕ → List Operator → Task
built g h kept = record { sizes = 3 ∷ 3 ∷ []; start = 0 ∷ 0 ∷ []; goal = g ∷ h ∷ []; pairs = 10 ∷ []; operators = exchange ∷ kept }

-- By the letter the value 1 of the silent variable is not forgotten, since it is paired with the named goal value; all values of the named variable are.
by-the-letter : judged_partial left_out one_named ≡ got (built 2 1 (forget 0 0 ∷ forget 1 0 ∷ forget 1 1 ∷ [])) 18
unfolding building
by-the-letter = refl

-- The lean task leaves out those of the named variable too.
by-the-lean-call : judged_partial left_out_lean one_named ≡ got (built 2 1 (forget 0 0 ∷ [])) 18
unfolding building
by-the-lean-call = refl

-- A file whose marks are all 1 names the goal 01: by the letter every value is forgotten, by the lean call none is.
abbrev all_named : List ℕ
all_named = 2 ∷ 2 ∷ 2 ∷ 1 ∷ 1 ∷ 0 ∷ 0 ∷ 0 ∷ 1 ∷ pair_and_move

all_named_lem : (judged_partial left_out all_named ≡ got (built 0 1 (forget 0 0 ∷ forget 0 1 ∷ forget 1 0 ∷ forget 1 1 ∷ [])) 19) × (judged_partial left_out_lean all_named ≡ got (built 0 1 []) 19)
unfolding building
all_named_lem = (refl, refl)

-- One whose marks are all 0 has no goal value, and asks for "unknown" everywhere: both keep every forgetting operator.
abbrev none_named : List ℕ
none_named = 2 ∷ 2 ∷ 2 ∷ 0 ∷ 0 ∷ 0 ∷ 0 ∷ pair_and_move

abbrev keeps_all : (Partial → ℕ → ℕ → Bool) → Type 0
keeps_all out = judged_partial out none_named ≡ got (built 2 2 (forget 0 0 ∷ forget 0 1 ∷ forget 1 0 ∷ forget 1 1 ∷ [])) 17

none_named_lem : keeps_all left_out × keeps_all left_out_lean
unfolding building
none_named_lem = (refl, refl)

-- ---- what is judged, and in which order

-- "a mark above 1 is 3": at the second mark.
mark-of-two : partial_of (2 ∷ 2 ∷ 2 ∷ 0 ∷ 2 ∷ []) 0 ≡ fault Range 4
unfolding reading
mark-of-two = refl

-- "Unknown" cannot be named: the goal value 2 of a variable of size 2.
unknown-named : partial_of (2 ∷ 2 ∷ 2 ∷ 0 ∷ 1 ∷ 0 ∷ 0 ∷ 2 ∷ []) 0 ≡ fault Range 7
unfolding reading
unknown-named = refl

-- N is that of the built task and is judged after the last size, before the marks: five sizes of 56 have 31,640 features, the built ones 32,775.
n-of-the-built : partial_of (5 ∷ 56 ∷ 56 ∷ 56 ∷ 56 ∷ 56 ∷ 2 ∷ []) 0 ≡ fault Limit 5
unfolding reading
n-of-the-built = refl

-- A size of 64 would be 65 in the built task; one of 1 is taken.
sizes-taken : (partial_header (1 ∷ 64 ∷ []) 0 ≡ fault Limit 1) × (partial_header (2 ∷ 63 ∷ 1 ∷ []) 0 ≡ got (63 ∷ 1 ∷ []) 3)
unfolding reading
sizes-taken = (refl, refl)

-- 5 before 6: the start 11 holds the pair 7, and a byte is left over.
left-over-before-held : judged_partial left_out (2 ∷ 2 ∷ 2 ∷ 0 ∷ 0 ∷ 1 ∷ 1 ∷ 1 ∷ 7 ∷ 0 ∷ 0 ∷ []) ≡ fault LeftOver 10
unfolding reading judged_partial
left-over-before-held = refl

held-in-the-built : judged_partial left_out (2 ∷ 2 ∷ 2 ∷ 0 ∷ 0 ∷ 1 ∷ 1 ∷ 1 ∷ 7 ∷ 0 ∷ []) ≡ fault Held 0
unfolding building
held-in-the-built = refl

-- The count is judged before 6 and 7, whatever start and operators are: more than 2,097,151 kept are 2, without a place.
count-first : (out : Partial → ℕ → ℕ → Bool) (file : List ℕ) (P : Partial) (next : ℕ) → partial_of file 0 ≡ got P next
    → ltb (length (built_task P (out P)).operators) number_end ≡ false → judged_partial out file ≡ fault Outgrown 0
unfolding judged_partial
count-first out file P next read many = rw (read, many) refl

count-is-two : (refusal Outgrown ≡ 2) × (ltb 2097151 number_end ≡ true) × (ltb 2097152 number_end ≡ false)
count-is-two = (refl, refl, refl)

-- ---- the partial file of a task

-- The operator (0: 0 to 1) of this task is idle, since its before atom is paired with both values of variable 1; so the pairs are closed under it.
abbrev stuck_task : Task
stuck_task =
    record {
      sizes = 2 ∷ 2 ∷ 2 ∷ [];
      start = 1 ∷ 0 ∷ 1 ∷ [];
      goal = 0 ∷ 0 ∷ 0 ∷ [];
      pairs = 6 ∷ 7 ∷ 12 ∷ [];
      operators = (record { variable = 0; before = 0; after = 1 } ∷ []) ∷ [];
    }

-- What follows the goal.
abbrev pairs_and_lift : List ℕ
pairs_and_lift = 3 ∷ 6 ∷ 7 ∷ 12 ∷ 1 ∷ 1 ∷ 0 ∷ 0 ∷ 1 ∷ []

abbrev stuck_file : List ℕ
stuck_file = 3 ∷ 2 ∷ 2 ∷ 2 ∷ 1 ∷ 0 ∷ 1 ∷ 0 ∷ 0 ∷ 0 ∷ pairs_and_lift

stuck-accepted : judged_task stuck_file ≡ got stuck_task 19
unfolding reading pairing judged_task task_of kind_of task_as mark_of parts_of body_of header
stuck-accepted = refl

-- With the marks 0, 1, 1 its partial file names the goal values of the variables 1 and 2.
abbrev stuck_partial : List ℕ
stuck_partial = 3 ∷ 2 ∷ 2 ∷ 2 ∷ 0 ∷ 1 ∷ 1 ∷ 1 ∷ 0 ∷ 1 ∷ 0 ∷ 0 ∷ pairs_and_lift

stuck-silenced : partial_bytes (silenced stuck_task (0 ∷ 1 ∷ 1 ∷ [])) ≡ stuck_partial
unfolding writing silenced table
stuck-silenced = refl

-- In the built task "unknown" is possible for variable 1: the operator is not idle any more, and the accepted task's partial file is refused 7.
stuck-refused : judged_partial left_out stuck_partial ≡ fault Unclosed 0
unfolding building
stuck-refused = refl

-- silence judges the number of the marks, each mark, and then the partial file's own limits. A task of one variable with this size.
abbrev single : ℕ → Task
single d = record { sizes = d ∷ []; start = 0 ∷ []; goal = 0 ∷ []; pairs = []; operators = [] }

marks-in-order : (marks_judged (single 63) (1 ∷ []) ≡ fine) × (marks_judged (single 64) [] ≡ faulty Range) × (marks_judged (single 64) (0 ∷ 0 ∷ []) ≡ faulty Range)
    × (marks_judged (single 64) (2 ∷ []) ≡ faulty Range) × (marks_judged (single 64) (1 ∷ []) ≡ faulty Outgrown)
unfolding reading marks_judged values_judged all_of
marks-in-order = (refl, refl, refl, refl, refl)

-- ---- against an impostor that always refuses

-- In a room of 40 bytes the built task of the first file above is written, and the partial file of a task.
build-written : (outcome : Outcome ℕ) → BuildsPartial one_named (replicate 40 0) outcome → outcome.answer ≡ done 29
unfolding building writing
build-written outcome e = ap (λ o. o.answer) e

silence-written : (outcome : Outcome ℕ) → Silences stuck_file (0 ∷ 1 ∷ 1 ∷ []) (replicate 40 0) outcome → outcome.answer ≡ done 21
unfolding reading pairing writing judged_task task_of kind_of task_as mark_of parts_of body_of header marks_judged values_judged silenced table
silence-written outcome e = ap (λ o. o.answer) e

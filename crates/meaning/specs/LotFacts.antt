-- Small facts that pin down what lots are, computed. Nothing else builds on them.
use Rattle.std.specs.Prelude.{ℕ, ◌≡◌, refl, List, [], ◌∷◌, ◌++◌}
use Rattle.meaning.specs.Sets.{every, flat}
use Rattle.meaning.specs.Feature.{sum_of, pairs_of, atoms, pair_start, double}
use Rattle.meaning.specs.Number.{Gaps, Unequal, refusal, got, fault, groups, number, numbers_on}
use Rattle.meaning.specs.File.{item, judge, limited, items_of, ended}
use Rattle.meaning.specs.Bay.{Bay, sides_of, bay_of, occurrences, one_gap, equal_lots, judged_lots, judged_bay, neighbours, exchange, slide, bay_operators, bay_pairs, task_for, bay_task}

-- To name one of these on an `unfolding` line opens what a bay file is judged with, what the task of a bay is made with.
judging : Unit {0}
unfolding judged_bay bay_of sides_of limited items_of item judge ended number groups numbers_on judged_lots one_gap equal_lots occurrences every
judging = tt

making : Unit {0}
unfolding task_for bay_pairs bay_operators slide neighbours occurrences flat double pair_start atoms pairs_of sum_of
making = tt

-- ---- refusals

-- A row of three slots, and its file.
abbrev row : List ℕ → List ℕ → Bay
row start goal = record { rows = 1; columns = 3; start = start; goal = goal }

abbrev row_file : List ℕ → List ℕ → List ℕ
row_file start goal = 1 ∷ 3 ∷ (start ++ goal)

-- Labels may repeat, and need not all occur.
two-alike : judged_bay (row_file (1 ∷ 1 ∷ 0 ∷ []) (0 ∷ 1 ∷ 1 ∷ [])) ≡ got (row (1 ∷ 1 ∷ 0 ∷ []) (0 ∷ 1 ∷ 1 ∷ [])) 8
unfolding judging
two-alike = refl

-- No gap, or more than one, in the start.
no_gap : judged_bay (row_file (1 ∷ 1 ∷ 2 ∷ []) (1 ∷ 1 ∷ 2 ∷ [])) ≡ fault Gaps 0
unfolding judging
no_gap = refl

two-gaps : judged_bay (row_file (0 ∷ 1 ∷ 0 ∷ []) (0 ∷ 1 ∷ 0 ∷ [])) ≡ fault Gaps 0
unfolding judging
two-gaps = refl

-- In the goal alone: the lots are unequal too, and 10 comes first.
goal-gaps : (judged_bay (row_file (0 ∷ 1 ∷ 1 ∷ []) (1 ∷ 1 ∷ 1 ∷ [])) ≡ fault Gaps 0) × (judged_bay (row_file (0 ∷ 1 ∷ 1 ∷ []) (0 ∷ 0 ∷ 1 ∷ [])) ≡ fault Gaps 0)
unfolding judging
goal-gaps = (refl, refl)

-- The same labels, but not equally often.
unequal : judged_bay (2 ∷ 2 ∷ 0 ∷ 1 ∷ 1 ∷ 2 ∷ 0 ∷ 1 ∷ 2 ∷ 2 ∷ []) ≡ fault Unequal 0
unfolding judging
unequal = refl

numbers : (refusal Gaps ≡ 10) × (refusal Unequal ≡ 11)
numbers = (refl, refl)

-- ---- the task

-- All labels different: each gives a pair for each two slots, and each from 1 on slides.
different-pairs : (bay_task (row (0 ∷ 1 ∷ 2 ∷ []) (2 ∷ 1 ∷ 0 ∷ []))).pairs ≡ 9 ∷ 13 ∷ 17 ∷ 18 ∷ 22 ∷ 26 ∷ 27 ∷ 31 ∷ 35 ∷ []
unfolding making
different-pairs = refl

different-operators : (bay_task (row (0 ∷ 1 ∷ 2 ∷ []) (2 ∷ 1 ∷ 0 ∷ []))).operators ≡ exchange 0 1 0 1 ∷ exchange 0 1 0 2 ∷ exchange 0 1 1 0 ∷ exchange 0 1 2 0
    ∷ exchange 1 2 0 1 ∷ exchange 1 2 0 2 ∷ exchange 1 2 1 0 ∷ exchange 1 2 2 0 ∷ []
unfolding making
different-operators = refl

-- A lot of two: only the gap occurs once, and gives pairs; the lot slides, and the label that does not occur gives nothing.
lot-pairs : (bay_task (row (1 ∷ 1 ∷ 0 ∷ []) (0 ∷ 1 ∷ 1 ∷ []))).pairs ≡ 9 ∷ 18 ∷ 27 ∷ []
unfolding making
lot-pairs = refl

lot-operators : (bay_task (row (1 ∷ 1 ∷ 0 ∷ []) (0 ∷ 1 ∷ 1 ∷ []))).operators ≡ exchange 0 1 0 1 ∷ exchange 0 1 1 0 ∷ exchange 1 2 0 1 ∷ exchange 1 2 1 0 ∷ []
unfolding making
lot-operators = refl

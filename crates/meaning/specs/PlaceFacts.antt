-- Small facts that pin down where faults stand and which bytes are shown (document 02, ticket 5). Nothing else builds on them.
use Rattle.std.specs.Prelude.{ℕ, ◌≡◌, refl, List, [], ◌∷◌}
use Rattle.meaning.specs.Sets.{listed, any_of, all_of, some}
use Rattle.meaning.specs.Feature.{sum_of, pairs_of, atoms, features, pair_start, double, both}
use Rattle.meaning.specs.Pair.{paired, holds}
use Rattle.meaning.specs.Number.{Ends, Padded, Endless, refusal, groups, number, numbers_on, groups_read, bytes_read}
use Rattle.meaning.specs.File.{item, judge, rising, ended, items_of, size_list, header, limited, feature_of, features_of, feature_list, entries_of, operator_of, operators_of, kind_of, mark_of, body_of, parts_of, task_as, task_of, judged_task, judged_weights_as}
use Rattle.meaning.specs.Answer.{done, refused}
use Rattle.meaning.specs.Bay.{sides_of, bay_of, occurrences, one_gap, judged_lots, judged_bay}
use Rattle.meaning.specs.Partial.{partial_header, partial_of, judged_partial}
use Rattle.meaning.specs.Place.{nowhere, in_task, in_weights, of_task, of_weights, shown_as, shown, shown_partial, shown_bay, bytes_in, task_holds, weights_hold, displayed}
use Rattle.meaning.specs.Line.{digits, word, at_place, spot_text, place_text, file_text, refused_line, line, verdict_line, bay_line}

-- To name this on an `unfolding` line opens what files are judged and faults are shown with.
unfoldable judging : Unit {0}
unfolding shown_as shown_partial shown_bay bytes_read groups_read judged_task judged_weights_as judged_partial judged_bay task_of kind_of task_as mark_of parts_of body_of partial_of bay_of header size_list partial_header sides_of items_of limited
    feature_list features_of feature_of entries_of operator_of operators_of item judge rising ended number groups numbers_on features atoms pairs_of sum_of holds some paired both double pair_start listed any_of all_of
    judged_lots one_gap occurrences
judging = tt

-- What was one number is three.
split-of-one : (refusal Ends ≡ 1) × (refusal Padded ≡ 12) × (refusal Endless ≡ 13)
split-of-one = (refl, refl, refl)

-- Two variables of size 2, no pairs, no operators.
abbrev small_task : List ℕ
small_task = 2 ∷ 2 ∷ 2 ∷ 0 ∷ 0 ∷ 1 ∷ 1 ∷ 0 ∷ 0 ∷ []

-- 1 is shown to the end of the file: the first byte of a number that goes on, and nothing where the file ends before the number begins.
ends-shown : (shown (2 ∷ 128 ∷ []) small_task ≡ of_task 1 1) × (shown (2 ∷ []) small_task ≡ of_task 1 0) × (shown [] small_task ≡ of_task 0 0)
unfolding judging
ends-shown = (refl, refl, refl)

-- 12 is shown up to and with the zero byte, 13 with as many bytes as are allowed.
badly-formed-shown : (shown (2 ∷ 128 ∷ 0 ∷ 1 ∷ []) [] ≡ of_task 1 2) × (shown (2 ∷ 128 ∷ 129 ∷ 130 ∷ 0 ∷ []) [] ≡ of_task 1 3)
unfolding judging
badly-formed-shown = (refl, refl)

-- 2, 3 and 4 are shown with the number's bytes, here one or two: a size of 65, a start value of 128, and a pair feature that does not increase.
judged-shown : (shown (2 ∷ 2 ∷ 65 ∷ 0 ∷ []) [] ≡ of_task 2 1) × (shown (2 ∷ 2 ∷ 2 ∷ 128 ∷ 1 ∷ []) [] ≡ of_task 3 2)
    × (shown (2 ∷ 2 ∷ 2 ∷ 0 ∷ 0 ∷ 1 ∷ 1 ∷ 2 ∷ 5 ∷ 5 ∷ []) [] ≡ of_task 9 1)
unfolding judging
judged-shown = (refl, refl, refl)

-- N is shown at the last size: five sizes of 64.
total-shown : shown (5 ∷ 64 ∷ 64 ∷ 64 ∷ 64 ∷ 64 ∷ 5 ∷ []) [] ≡ of_task 5 1
unfolding judging
total-shown = refl

-- A fault of the weights is shown in the weights, counted from their own start; one of the task comes first and is shown in the task.
weights-shown : (shown small_task (1 ∷ 9 ∷ []) ≡ of_weights 1 1) × (shown small_task [] ≡ of_weights 0 0) × (shown (2 ∷ 2 ∷ 0 ∷ []) (1 ∷ 9 ∷ []) ≡ of_task 2 1)
unfolding judging
weights-shown = (refl, refl, refl)

-- Without a place: bytes left over in the weights or in the task, a start that holds a listed pair, nothing refused.
nothing-shown : (shown small_task (0 ∷ 7 ∷ []) ≡ of_task 0 0) × (shown (2 ∷ 2 ∷ 2 ∷ 0 ∷ 0 ∷ 1 ∷ 1 ∷ 0 ∷ 0 ∷ 7 ∷ []) [] ≡ of_task 0 0)
    × (shown (2 ∷ 2 ∷ 2 ∷ 0 ∷ 0 ∷ 1 ∷ 1 ∷ 1 ∷ 4 ∷ 0 ∷ []) [] ≡ of_task 0 0) × (shown small_task (0 ∷ []) ≡ of_task 0 0)
unfolding judging
nothing-shown = (refl, refl, refl, refl)

-- The bytes are those of the file that holds them.
bytes-shown : bytes_in (2 ∷ 2 ∷ 2 ∷ 128 ∷ 1 ∷ []) (9 ∷ 9 ∷ 9 ∷ 9 ∷ 9 ∷ []) (of_task 3 2) ≡ 128 ∷ 1 ∷ []
bytes-shown = refl

-- A partial file: its mark of 2; its five sizes of 56, whose built task has too many features, at the last of them. A bay file: its columns, and a label out of range.
others-shown : (shown_partial (2 ∷ 2 ∷ 2 ∷ 1 ∷ 2 ∷ []) [] ≡ of_task 4 1) × (shown_partial (5 ∷ 56 ∷ 56 ∷ 56 ∷ 56 ∷ 56 ∷ 0 ∷ []) [] ≡ of_task 5 1)
    × (shown_bay (9 ∷ 9 ∷ 0 ∷ []) ≡ of_task 1 1) × (shown_bay (1 ∷ 2 ∷ 0 ∷ 2 ∷ []) ≡ of_task 3 1) × (shown_bay (1 ∷ 2 ∷ 1 ∷ 1 ∷ 0 ∷ 1 ∷ []) ≡ of_task 0 0)
unfolding judging
others-shown = (refl, refl, refl, refl, refl)

-- Beginning and length go to the first two words, any others stay; one word is too few.
words-displayed : (displayed (of_weights 7 2) (5 ∷ 5 ∷ 5 ∷ []) ≡ record { answer = done weights_hold; lent = 7 ∷ 2 ∷ 5 ∷ [] })
    × (displayed (of_task 7 2) (5 ∷ 5 ∷ []) ≡ record { answer = done task_holds; lent = 7 ∷ 2 ∷ [] })
    × (displayed (of_task 7 2) (5 ∷ []) ≡ record { answer = refused 8; lent = 5 ∷ [] })
words-displayed = (refl, refl, refl)

-- `refused 3 at 17`, and `refused 5` as before.
finder-line : (line (in_task 17) (refused 3) ≡ 114 ∷ 101 ∷ 102 ∷ 117 ∷ 115 ∷ 101 ∷ 100 ∷ 32 ∷ 51 ∷ 32 ∷ 97 ∷ 116 ∷ 32 ∷ 49 ∷ 55 ∷ 10 ∷ [])
    × (line nowhere (refused 5) ≡ 114 ∷ 101 ∷ 102 ∷ 117 ∷ 115 ∷ 101 ∷ 100 ∷ 32 ∷ 53 ∷ 10 ∷ [])
unfolding line refused_line place_text spot_text at_place word digits
finder-line = (refl, refl)

-- `refused 12 at 0 in task`.
task-line : verdict_line (in_task 0) (refused 12)
    ≡ 114 ∷ 101 ∷ 102 ∷ 117 ∷ 115 ∷ 101 ∷ 100 ∷ 32 ∷ 49 ∷ 50 ∷ 32 ∷ 97 ∷ 116 ∷ 32 ∷ 48 ∷ 32 ∷ 105 ∷ 110 ∷ 32 ∷ 116 ∷ 97 ∷ 115 ∷ 107 ∷ 10 ∷ []
unfolding verdict_line refused_line file_text spot_text at_place word digits
task-line = refl

-- `refused 4 at 2 in weights`.
weights-line : verdict_line (in_weights 2) (refused 4)
    ≡ 114 ∷ 101 ∷ 102 ∷ 117 ∷ 115 ∷ 101 ∷ 100 ∷ 32 ∷ 52 ∷ 32 ∷ 97 ∷ 116 ∷ 32 ∷ 50 ∷ 32 ∷ 105 ∷ 110 ∷ 32 ∷ 119 ∷ 101 ∷ 105 ∷ 103 ∷ 104 ∷ 116 ∷ 115 ∷ 10 ∷ []
unfolding verdict_line refused_line file_text spot_text at_place word digits
weights-line = refl

-- `refused 2 at 1`, for nine rows of nine.
bay-line : bay_line (9 ∷ 9 ∷ 0 ∷ []) 2 ≡ 114 ∷ 101 ∷ 102 ∷ 117 ∷ 115 ∷ 101 ∷ 100 ∷ 32 ∷ 50 ∷ 32 ∷ 97 ∷ 116 ∷ 32 ∷ 49 ∷ 10 ∷ []
unfolding judging bay_line refused_line place_text spot_text at_place word digits
bay-line = refl

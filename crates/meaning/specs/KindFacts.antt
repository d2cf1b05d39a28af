-- Small facts that pin down the two kinds of files and the way from one to the other (document 02, ticket 7). Nothing else builds on them.
use Rattle.std.specs.Prelude.{ℕ, ◌≡◌, refl, List, [], ◌∷◌, replicate}
use Rattle.meaning.specs.Sets.{listed, any_of, all_of, two_of, some, flat}
use Rattle.meaning.specs.Task.{Task, names}
use Rattle.meaning.specs.Feature.{sum_of, pairs_of, atoms, features, pair_start, double, both}
use Rattle.meaning.specs.Pair.{paired, possible, clashing, stuck, idle, clashing_after, uncovered, closed, holds}
use Rattle.meaning.specs.Number.{Ends, Padded, Endless, Limit, Range, Unordered, LeftOver, got, fault, groups, number, numbers_on, groups_read, bytes_read, group_bytes, number_bytes}
use Rattle.meaning.specs.File.{item, judge, rising, ended, items_of, size_list, header, limited, plain, gapped, kind_of, mark_of, feature_of, features_of, feature_list, entries_of, operator_of, operators_of, body_of, parts_of, task_as, task_of, judged_as, judged_task, judged_weights_as}
use Rattle.meaning.specs.File.{bytes_of, counted, entry_bytes, operator_bytes, weight_bytes, gaps_from, list_bytes, weight_bytes_as, task_bytes_as}
use Rattle.meaning.specs.Answer.{Answer, done, refused, Outcome, Verdict, ChecksNew}
use Rattle.meaning.specs.Partial.{named, each_pair, built_pairs, forgettings, built_task, against_goal, left_out, partial_header, goal_of, partial_of, judged_partial, ChecksPartialNew}
use Rattle.meaning.specs.Place.{Holder, weights_hold, shown_as, DisplaysNew}
use Rattle.meaning.specs.Convert.{ConvertsToNew, ConvertsToOld, ConvertsWeightsToNew, ConvertsWeightsToOld}

-- To name one of these on an `unfolding` line opens what files are judged with, and what bytes are written with.
unfoldable judging : Unit {0}
unfolding judged_task judged_as judged_weights_as task_of kind_of task_as mark_of parts_of body_of header limited size_list items_of feature_list features_of feature_of entries_of operator_of operators_of item judge rising ended
    number groups numbers_on features atoms pairs_of sum_of holds closed idle clashing stuck clashing_after uncovered possible paired both double pair_start listed any_of all_of two_of some names
judging = tt

unfoldable writing : Unit {0}
unfolding task_bytes_as weight_bytes_as list_bytes gaps_from weight_bytes counted bytes_of operator_bytes entry_bytes number_bytes group_bytes
writing = tt

-- ---- one task, two files

-- Document 01's case L: 10 to 00, lift, pairs 4 and 5.
abbrev task_l : Task
task_l = record {
  sizes = 2 ∷ 2 ∷ [];
  start = 1 ∷ 0 ∷ [];
  goal = 0 ∷ 0 ∷ [];
  pairs = 4 ∷ 5 ∷ [];
  operators = (record { variable = 0; before = 0; after = 1 } ∷ []) ∷ [];
}

abbrev old_l : List ℕ
old_l = 2 ∷ 2 ∷ 2 ∷ 1 ∷ 0 ∷ 0 ∷ 0 ∷ 2 ∷ 4 ∷ 5 ∷ 1 ∷ 1 ∷ 0 ∷ 0 ∷ 1 ∷ []

-- The mark in front, and 5 as no gap behind 4.
abbrev new_l : List ℕ
new_l = 0 ∷ 2 ∷ 2 ∷ 2 ∷ 1 ∷ 0 ∷ 0 ∷ 0 ∷ 2 ∷ 4 ∷ 0 ∷ 1 ∷ 1 ∷ 0 ∷ 0 ∷ 1 ∷ []

-- The first number tells the kind; a file without one counts as old.
kinds : (kind_of old_l 0 ≡ plain) × (kind_of new_l 0 ≡ gapped) × (kind_of [] 0 ≡ plain)
unfolding judging
kinds = (refl, refl, refl)

-- Both files name the task, and are what is written for it.
both-name-it : (judged_task old_l ≡ got task_l 15) × (judged_task new_l ≡ got task_l 16)
unfolding judging
both-name-it = (refl, refl)

both-written : (task_bytes_as plain task_l ≡ old_l) × (task_bytes_as gapped task_l ≡ new_l)
unfolding writing
both-written = (refl, refl)

-- "0 where an old task is due 2"; "a first number other than 0 where the new kind is due is 3".
wrong-kind : (judged_as plain new_l ≡ fault Limit 0) × (judged_as gapped old_l ≡ fault Range 0)
unfolding judging
wrong-kind = (refl, refl)

-- A first number that is badly formed is 1, 12 or 13 before that.
ill-formed : (judged_as gapped [] ≡ fault Ends 0) × (judged_as gapped (128 ∷ 0 ∷ []) ≡ fault Padded 0) × (judged_as gapped (128 ∷ 128 ∷ 128 ∷ []) ≡ fault Endless 0)
    × (judged_as plain (128 ∷ 0 ∷ []) ≡ fault Padded 0) × (judged_task (128 ∷ 0 ∷ []) ≡ fault Padded 0)
unfolding judging
ill-formed = (refl, refl, refl, refl, refl)

-- Places of a new file count from its mark: a size of 65, and N at the last of five sizes of 64.
places : (judged_task (0 ∷ 2 ∷ 2 ∷ 65 ∷ []) ≡ fault Limit 3) × (judged_task (0 ∷ 5 ∷ 64 ∷ 64 ∷ 64 ∷ 64 ∷ 64 ∷ []) ≡ fault Limit 6)
unfolding judging
places = (refl, refl)

-- A second mark is a number of variables out of its limit, and a partial file has no mark.
one-mark : (judged_task (0 ∷ 0 ∷ 2 ∷ 2 ∷ []) ≡ fault Limit 1) × (judged_partial left_out (0 ∷ 1 ∷ 2 ∷ []) ≡ fault Limit 0)
unfolding judging judged_partial partial_of partial_header
one-mark = (refl, refl)

-- ---- gap lists

-- Pairs of two variables of size 2 are 4 to 7: a first number as it is, then each gap less one.
gaps-read : (feature_list gapped 4 8 (3 ∷ 4 ∷ 0 ∷ 1 ∷ []) 0 ≡ got (4 ∷ 5 ∷ 7 ∷ []) 4) × (list_bytes gapped (4 ∷ 5 ∷ 7 ∷ []) ≡ 3 ∷ 4 ∷ 0 ∷ 1 ∷ [])
unfolding judging writing
gaps-read = (refl, refl)

-- A gap of two bytes, and one of none behind it.
wide-gap : (feature_list gapped 0 1000 (3 ∷ 5 ∷ 128 ∷ 1 ∷ 0 ∷ []) 0 ≡ got (5 ∷ 134 ∷ 135 ∷ []) 5)
    × (list_bytes gapped (5 ∷ 134 ∷ 135 ∷ []) ≡ 3 ∷ 5 ∷ 128 ∷ 1 ∷ 0 ∷ []) × (list_bytes plain (5 ∷ 134 ∷ 135 ∷ []) ≡ 3 ∷ 5 ∷ 134 ∷ 1 ∷ 135 ∷ 1 ∷ [])
unfolding judging writing
wide-gap = (refl, refl, refl)

-- "A gap list whose sum passes the range is 3", at the gap that passes it; so is a first pair that is none.
past-the-range : (feature_list gapped 4 8 (2 ∷ 4 ∷ 3 ∷ []) 0 ≡ fault Range 2) × (feature_list gapped 4 8 (1 ∷ 8 ∷ []) 0 ≡ fault Range 1) × (feature_list gapped 4 8 (1 ∷ 3 ∷ []) 0 ≡ fault Range 1)
unfolding judging
past-the-range = (refl, refl, refl)

-- "4 no longer occurs for gap lists": what repeats a feature in an old list is two features in a new one, or is 3.
no-four : (feature_list plain 0 8 (2 ∷ 2 ∷ 2 ∷ []) 0 ≡ fault Unordered 2) × (feature_list gapped 0 8 (2 ∷ 2 ∷ 2 ∷ []) 0 ≡ got (2 ∷ 5 ∷ []) 3)
    × (feature_list gapped 0 8 (2 ∷ 5 ∷ 5 ∷ []) 0 ≡ fault Range 2)
unfolding judging
no-four = (refl, refl, refl)

-- ---- weight files

-- "A new weight file also begins with 0; in it the count follows": the features 0 and 2.
weights-alike : (judged_weights_as plain 8 (2 ∷ 0 ∷ 2 ∷ []) ≡ got (0 ∷ 2 ∷ []) 3) × (judged_weights_as gapped 8 (0 ∷ 2 ∷ 0 ∷ 1 ∷ []) ≡ got (0 ∷ 2 ∷ []) 4)
    × (weight_bytes_as plain (0 ∷ 2 ∷ []) ≡ 2 ∷ 0 ∷ 2 ∷ []) × (weight_bytes_as gapped (0 ∷ 2 ∷ []) ≡ 0 ∷ 2 ∷ 0 ∷ 1 ∷ [])
unfolding judging writing
weights-alike = (refl, refl, refl, refl)

-- Old weights where new ones are due are 3; new ones are read as a count of 0 where old ones are due, with bytes left over; a mark alone ends.
wrong-weights : (judged_weights_as gapped 8 (2 ∷ 0 ∷ 2 ∷ []) ≡ fault Range 0) × (judged_weights_as plain 8 (0 ∷ 2 ∷ 0 ∷ 1 ∷ []) ≡ fault LeftOver 1)
    × (judged_weights_as gapped 8 (0 ∷ []) ≡ fault Ends 1)
unfolding judging
wrong-weights = (refl, refl, refl)

-- ---- the calls

-- to_new and to_old write the other file, and what is behind it stays.
L-converted : (outcome : Outcome ℕ) → ConvertsToNew old_l (replicate 17 9) outcome
    → outcome ≡ record { answer = done 16; lent = 0 ∷ 2 ∷ 2 ∷ 2 ∷ 1 ∷ 0 ∷ 0 ∷ 0 ∷ 2 ∷ 4 ∷ 0 ∷ 1 ∷ 1 ∷ 0 ∷ 0 ∷ 1 ∷ 9 ∷ [] }
unfolding judging writing
L-converted outcome e = e

L-back : (outcome : Outcome ℕ) → ConvertsToOld new_l (replicate 15 9) outcome → outcome ≡ record { answer = done 15; lent = old_l }
unfolding judging writing
L-back outcome e = e

-- Each takes the other kind alone: 2 and 3. A byte too few is 8.
L-refused : (outcome : Outcome ℕ) → (ConvertsToNew new_l (9 ∷ []) outcome → outcome ≡ record { answer = refused 2; lent = 9 ∷ [] })
    × (ConvertsToOld old_l (9 ∷ []) outcome → outcome ≡ record { answer = refused 3; lent = 9 ∷ [] })
    × (ConvertsToNew old_l (replicate 15 9) outcome → outcome ≡ record { answer = refused 8; lent = replicate 15 9 })
unfolding judging writing
L-refused outcome = (λ e. e, λ e. e, λ e. e)

-- 6 and 7 are judged too, before 8: case G, of both kinds.
G-refused : (outcome : Outcome ℕ)
    → (ConvertsToNew (2 ∷ 2 ∷ 2 ∷ 0 ∷ 0 ∷ 1 ∷ 0 ∷ 1 ∷ 7 ∷ 1 ∷ 1 ∷ 0 ∷ 0 ∷ 1 ∷ []) [] outcome → outcome ≡ record { answer = refused 7; lent = [] })
    × (ConvertsToOld (0 ∷ 2 ∷ 2 ∷ 2 ∷ 0 ∷ 0 ∷ 1 ∷ 0 ∷ 1 ∷ 7 ∷ 1 ∷ 1 ∷ 0 ∷ 0 ∷ 1 ∷ []) [] outcome → outcome ≡ record { answer = refused 7; lent = [] })
unfolding judging
G-refused outcome = (λ e. e, λ e. e)

-- Weights, beside a task file of either kind.
weights-converted : (outcome : Outcome ℕ) → (ConvertsWeightsToNew new_l (2 ∷ 0 ∷ 2 ∷ []) (replicate 4 9) outcome → outcome ≡ record { answer = done 4; lent = 0 ∷ 2 ∷ 0 ∷ 1 ∷ [] })
    × (ConvertsWeightsToOld old_l (0 ∷ 2 ∷ 0 ∷ 1 ∷ []) (replicate 4 9) outcome → outcome ≡ record { answer = done 3; lent = 2 ∷ 0 ∷ 2 ∷ 9 ∷ [] })
    × (ConvertsWeightsToOld old_l (2 ∷ 0 ∷ 2 ∷ []) [] outcome → outcome ≡ record { answer = refused 3; lent = [] })
unfolding judging writing
weights-converted outcome = (λ e. e, λ e. e, λ e. e)

-- "callers say which kind of weight file they send": check_new and display_new take new weights, and old ones are 3 at their first byte.
new-weights-due : (answer : Answer Verdict) (outcome : Outcome Holder) → (ChecksNew old_l (1 ∷ 0 ∷ []) answer → answer ≡ refused 3)
    × (DisplaysNew old_l (1 ∷ 0 ∷ []) (9 ∷ 9 ∷ []) outcome → outcome ≡ record { answer = done weights_hold; lent = 0 ∷ 1 ∷ [] })
unfolding judging shown_as bytes_read groups_read
new-weights-due answer outcome = (λ e. e, λ e. e)

-- check_partial_new alike: one variable of size 2, named, from 0 to 1.
new-weights-due-partial : (answer : Answer Verdict) → ChecksPartialNew (1 ∷ 2 ∷ 1 ∷ 0 ∷ 1 ∷ 0 ∷ 0 ∷ []) (1 ∷ 0 ∷ []) answer → answer ≡ refused 3
unfolding judging judged_partial partial_of partial_header goal_of built_task built_pairs each_pair forgettings left_out against_goal named flat
new-weights-due-partial answer e = e

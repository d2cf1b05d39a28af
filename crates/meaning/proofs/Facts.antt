-- Small facts that pin the definitions down where document 01 says that it is easy to get them wrong. Nothing else builds on them.
use Rattle.std.specs.Prelude.{ℕ, zero, suc, ◌<◌, ◌≡◌, refl, true, false, not, ◌||◌, List, [], ◌∷◌, length}
use Rattle.std.proofs.Common.{ap, sym, ◌∙◌, true≢false, arith}
use Rattle.meaning.specs.Limits.{least_size, most_size}
use Rattle.meaning.specs.Sets.{◌⊕◌, Set, Slots, listed, any_of, all_of, two_of, some, every, count, shared, whole_number}
use Rattle.meaning.specs.Task.{Operator, State, names, applies, applied, value, size}
use Rattle.meaning.specs.Feature.{sum_of, pairs_of, atoms, features, single, pair_start, double, both, true_in, parity}
use Rattle.meaning.specs.Pair.{paired, possible, clashing, stuck, idle, clashing_after, uncovered, closed, holds, joins_afters, joins_possible, unclosed_pair}
use Rattle.meaning.specs.Slot.{Reduced}
use Rattle.meaning.specs.Weight.{Considered, Keeps, Allows}
use Rattle.meaning.specs.Grid.{made, used, kept, effect}
use Rattle.meaning.specs.Number.{Ends, Padded, Endless, Limit, Range, LeftOver, Outgrown, refusal, has_place}
use Rattle.meaning.specs.Number.{got, fault, groups, number, numbers_on}
use Rattle.meaning.specs.File.{item, judge, rising, ended, items_of, size_list, header, limited, feature_of, features_of, feature_list, operators_of, kind_of, mark_of, body_of, parts_of, task_as, task_of, judged_task}
use Rattle.meaning.specs.Workspace.{has}
use Rattle.meaning.specs.Answer.{done, refused, accepted, ends_alike, breaks, fine, faulty, entries_judged}
use Rattle.meaning.specs.Bay.{sides_of, neighbours}
use Rattle.meaning.specs.Place.{nowhere}
use Rattle.meaning.specs.Line.{digits, word, spot_text, file_text, refused_line, verdict_line}

-- States, value by value.
pub state-none : State [] []
state-none = record { full = refl; values = λ i l. absurd (omega arith) }

pub state-more : (d x : ℕ) (ds xs : List ℕ) → x < d → State ds xs → State (d ∷ ds) (x ∷ xs)
state-more d x ds xs l h = record { full = ap suc h.full; values = at }
  where
    at : (i : ℕ) → i < length (d ∷ ds) → value (x ∷ xs) i < size (d ∷ ds) i
    at zero k = l
    at (suc i) k = h.values i (omega arith)

-- Two variables of size 2, and the operator (0: 0 to 1) alone.
abbrev pub pair_of_two : List ℕ
pair_of_two = 2 ∷ 2 ∷ []

abbrev lift : Operator
lift = record { variable = 0; before = 0; after = 1 } ∷ []

-- The rest of the state meets an operator through mixed features: feature 4 is true in 00 and not in 10.
mixed : parity pair_of_two (listed (4 ∷ [])) (applied lift (0 ∷ 0 ∷ [])) ⊕ parity pair_of_two (listed (4 ∷ [])) (0 ∷ 0 ∷ []) ≡ true
unfolding parity shared count true_in some features atoms pairs_of sum_of single double pair_start listed any_of applied
mixed = refl

-- The atom (1,1) is paired with lift's after atom, by feature 7, and possible all the same; so the list is not closed under lift.
possible-beside-after : possible pair_of_two (listed (7 ∷ [])) lift 1 1 ≡ true
unfolding possible paired both double pair_start atoms sum_of listed any_of
possible-beside-after = refl

open-beside-after : closed pair_of_two (listed (7 ∷ [])) lift ≡ false
unfolding closed idle clashing stuck clashing_after uncovered possible paired both double pair_start atoms sum_of listed any_of two_of some names
open-beside-after = refl

-- Paired with lift's before atom, by feature 5, it is not possible.
impossible-beside-before : possible pair_of_two (listed (5 ∷ [])) lift 1 1 ≡ false
unfolding possible paired both double pair_start atoms sum_of listed any_of
impossible-beside-before = refl

-- With both values of variable 1 so paired lift is idle.
lift-idle : idle pair_of_two (listed (4 ∷ 5 ∷ [])) lift ≡ true
unfolding idle clashing stuck possible paired both double pair_start atoms sum_of listed any_of two_of some names
lift-idle = refl

-- Three variables of size 2; the listed pairs 15 and 16 allow the variables 1 and 2 equal values only, and the weights are {7, 11}.
abbrev three_of_two : List ℕ
three_of_two = 2 ∷ 2 ∷ 2 ∷ []

abbrev unlike : Set
unlike = listed (15 ∷ 16 ∷ [])

abbrev beside_ones : Set
beside_ones = listed (7 ∷ 11 ∷ [])

-- The list is closed under lift, which is not idle, and 000 holds no listed pair.
unlike-fine : (closed three_of_two unlike lift ≡ true) × (idle three_of_two unlike lift ≡ false) × (holds three_of_two unlike (0 ∷ 0 ∷ 0 ∷ []) ≡ false)
unfolding closed idle clashing stuck clashing_after uncovered possible paired both double pair_start atoms sum_of listed any_of two_of some names holds
unlike-fine = (refl, refl, refl)

-- "Two unnamed values may be paired with each other there": 001 holds a listed pair and counts.
unlike-held : holds three_of_two unlike (0 ∷ 0 ∷ 1 ∷ []) ≡ true
unfolding holds some paired both double pair_start atoms sum_of listed any_of
unlike-held = refl

unlike-considered : Considered three_of_two unlike lift (0 ∷ 0 ∷ 1 ∷ [])
unfolding applies all_of names holds some possible paired both double pair_start atoms sum_of listed any_of
unlike-considered = record {
  is_state = state-more 2 0 _ _ (omega arith) (state-more 2 0 _ _ (omega arith) (state-more 2 1 _ _ (omega arith) state-none));
  has-before = refl;
  elsewhere = possible-there;
}
  where
    possible-there : (u : ℕ) → u < 3 → names lift u ≡ false → possible three_of_two unlike lift u (value (0 ∷ 0 ∷ 1 ∷ []) u) ≡ true
    possible-there zero l e = absurd (true≢false e)
    possible-there (suc zero) l e = refl
    possible-there (suc (suc zero)) l e = refl
    possible-there (suc (suc (suc u))) l e = absurd (omega arith)

-- From each state that holds no listed pair these weights keep parity under lift; still they do not keep it.
unlike-kept-elsewhere : every 2 (λ x. every 2 (λ y. holds three_of_two unlike (0 ∷ x ∷ y ∷ [])
    || not (parity three_of_two beside_ones (applied lift (0 ∷ x ∷ y ∷ [])) ⊕ parity three_of_two beside_ones (0 ∷ x ∷ y ∷ [])))) ≡ true
unfolding every holds paired both parity shared count true_in some features atoms pairs_of sum_of single double pair_start listed any_of applied
unlike-kept-elsewhere = refl

unlike-breaks : Keeps three_of_two unlike beside_ones lift → ⊥
unfolding parity shared count true_in some features atoms pairs_of sum_of single double pair_start listed any_of applied
unlike-breaks keeps = true≢false (sym (keeps (0 ∷ 0 ∷ 1 ∷ []) unlike-considered))

-- The operator (0: 0 to 1; 1: 0 to 0) is idle where its two before atoms are paired, by feature 4; and an idle operator has no condition.
abbrev lift_beside : Operator
lift_beside = record { variable = 0; before = 0; after = 1 } ∷ record { variable = 1; before = 0; after = 0 } ∷ []

clash-idle : idle pair_of_two (listed (4 ∷ [])) lift_beside ≡ true
unfolding idle clashing paired both double pair_start atoms sum_of listed any_of two_of
clash-idle = refl

clash-allows : (weights : Set) → Allows pair_of_two (listed (4 ∷ [])) weights lift_beside
clash-allows weights busy = absurd (true≢false (sym clash-idle ∙ busy))

-- That says something: its condition would speak of 00, and {0} does not keep parity from there.
clash-considered : Considered pair_of_two (listed (4 ∷ [])) lift_beside (0 ∷ 0 ∷ [])
unfolding applies all_of names any_of
clash-considered = record {
  is_state = state-more 2 0 _ _ (omega arith) (state-more 2 0 _ _ (omega arith) state-none);
  has-before = refl;
  elsewhere = all_named_lem;
}
  where
    all_named_lem : (u : ℕ) → u < 2 → names lift_beside u ≡ false → possible pair_of_two (listed (4 ∷ [])) lift_beside u (value (0 ∷ 0 ∷ []) u) ≡ true
    all_named_lem zero l e = absurd (true≢false e)
    all_named_lem (suc zero) l e = absurd (true≢false e)
    all_named_lem (suc (suc u)) l e = absurd (omega arith)

clash-breaks : Keeps pair_of_two (listed (4 ∷ [])) (listed (0 ∷ [])) lift_beside → ⊥
unfolding parity shared count true_in some features atoms pairs_of sum_of single double pair_start listed any_of applied
clash-breaks keeps = true≢false (sym (keeps (0 ∷ 0 ∷ []) clash-considered))

-- Slots 1 and 2 of two rows of two are one apart and no neighbours; 0 and 1 are, and 0 and 2.
row-end : neighbours 2 1 2 ≡ false
unfolding neighbours
row-end = refl

side_by_side : neighbours 2 0 1 ≡ true
unfolding neighbours
side_by_side = refl

one-below-the-other : neighbours 2 0 2 ≡ true
unfolding neighbours
one-below-the-other = refl

-- Slots are indexed by their least member: slot 1 cannot hold {0, 1}.
least-not-greatest : (slots : Slots) → Reduced 2 slots → slots 1 0 ≡ true → ⊥
least-not-greatest slots R e = true≢false (sym e ∙ R.low 1 0 (omega arith))

-- Slots as they came, {0, 1} and then {1}, are not reduced: the first holds the second's index.
not-as-they-came : (slots : Slots) → Reduced 2 slots → slots 0 1 ≡ true → slots 1 1 ≡ true → ⊥
not-as-they-came slots R e e' = true≢false (sym e ∙ R.clear 0 1 e' (omega arith))

-- Numbers: shortest form only, three bytes at most, low group first.
low-group-first : number (128 ∷ 1 ∷ []) 0 ≡ got 128 2
unfolding number groups
low-group-first = refl

-- "shortest form still rules": in two bytes and in three.
padded : (number (128 ∷ 0 ∷ []) 0 ≡ fault Padded 0) × (number (128 ∷ 128 ∷ 0 ∷ []) 0 ≡ fault Padded 0)
unfolding number groups
padded = (refl, refl)

-- "a third byte that says more follows is too long", whatever follows; a second byte that says so is not.
endless : (number (128 ∷ 128 ∷ 128 ∷ 1 ∷ []) 0 ≡ fault Endless 0) × (number (128 ∷ 128 ∷ 128 ∷ []) 0 ≡ fault Endless 0) × (number (128 ∷ 128 ∷ []) 0 ≡ fault Ends 0)
unfolding number groups
endless = (refl, refl, refl)

-- "x slower": (0,1) of the variables 0 and 1 comes right after (0,0), and (1,0) later.
x-slower : (double pair_of_two 0 0 1 1 ≡ 5) × (double pair_of_two 0 1 1 0 ≡ 6)
unfolding double pair_start atoms sum_of
x-slower = (refl, refl)

-- A range before an order. In a record: the variable 2 of two is out of range, and does not increase either.
range-first : entries_judged pair_of_two 3 (record { variable = 2; before = 0; after = 0 } ∷ []) fine ≡ faulty Range
unfolding entries_judged
range-first = refl

-- In a file: after the pair feature 5, at place 9, comes 3, which is no pair feature and does not increase either.
range-first-in-files : judged_task (2 ∷ 2 ∷ 2 ∷ 0 ∷ 0 ∷ 0 ∷ 1 ∷ 2 ∷ 5 ∷ 3 ∷ 0 ∷ []) ≡ fault Range 9
unfolding judged_task task_of kind_of task_as mark_of parts_of body_of header size_list items_of limited feature_list features_of feature_of item judge rising number groups features atoms pairs_of sum_of
range-first-in-files = refl

-- 5 before 6: a start that holds a listed pair, and a byte left over.
left-over-first : judged_task (2 ∷ 2 ∷ 2 ∷ 1 ∷ 1 ∷ 0 ∷ 0 ∷ 1 ∷ 7 ∷ 0 ∷ 0 ∷ []) ≡ fault LeftOver 10
unfolding judged_task task_of kind_of task_as mark_of parts_of body_of header size_list items_of limited feature_list features_of feature_of operators_of item judge rising ended number groups features atoms pairs_of sum_of
left-over-first = refl

-- N is placed at the last size: five sizes of 64, from place 1 on.
limit-at-last-size : header least_size most_size (7 ∷ 5 ∷ 64 ∷ 64 ∷ 64 ∷ 64 ∷ 64 ∷ 0 ∷ []) 1 ≡ fault Limit 6
unfolding header size_list items_of limited item number groups numbers_on features atoms pairs_of sum_of
limit-at-last-size = refl

-- Rows times columns is placed at the columns, too many and too few.
limit-at-columns : (sides_of (9 ∷ 9 ∷ 0 ∷ []) 0 ≡ fault Limit 1) × (sides_of (1 ∷ 1 ∷ 0 ∷ []) 0 ≡ fault Limit 1)
unfolding sides_of limited item number groups numbers_on
limit-at-columns = (refl, refl)

-- A size that breaks its own limits is placed there, before N is judged.
limit-at-size : (size_list 2 63 (2 ∷ 63 ∷ 2 ∷ []) 0 ≡ got (63 ∷ 2 ∷ []) 3) × (size_list 2 63 (2 ∷ 64 ∷ 1 ∷ []) 0 ≡ fault Limit 1) × (size_list 2 63 (2 ∷ 2 ∷ 1 ∷ []) 0 ≡ fault Limit 2)
unfolding size_list items_of item number groups
limit-at-size = (refl, refl, refl)

-- A limit that is judged after 5 has the number of one that is judged as read, and no place; a number that does not end in its bytes has one.
limit-without-place : (refusal Outgrown ≡ refusal Limit) × (has_place Limit ≡ true) × (has_place Outgrown ≡ false) × (has_place Endless ≡ true) × (has_place LeftOver ≡ false)
limit-without-place = (refl, refl, refl, refl, refl)

-- The grid, where it is not the plain product of two kinds.
grid-corners : (effect made used ≡ 0) × (effect kept made ≡ 1) × (effect used kept ≡ 1) × (effect kept kept ≡ 0)
grid-corners = (refl, refl, refl, refl)

-- The least set is the one with the least whole number: {2} is 4, {0, 1} is 3.
by-whole-number : (whole_number 3 (listed (2 ∷ [])) ≡ 4) × (whole_number 3 (listed (0 ∷ 1 ∷ [])) ≡ 3)
unfolding whole_number listed any_of
by-whole-number = (refl, refl)

-- Feature 65 is bit 1 of the second word.
bit-in-word : (has (0 ∷ 2 ∷ []) 65 ≡ true) × (has (2 ∷ 0 ∷ []) 65 ≡ false)
unfolding has
bit-in-word = (refl, refl)

-- ---- unclosed pairs

-- Feature 7 is that of lift's after atom and the atom (1,1). It is unclosed as long as (1,1) is paired with no before atom; feature 5 pairs it with one.
unclosed-beside-after : unclosed_pair pair_of_two (listed (7 ∷ [])) lift 7 ≡ true
unfolding unclosed_pair joins_afters joins_possible possible paired both double pair_start atoms sum_of listed any_of two_of some names
unclosed-beside-after = refl

covered-beside-before : unclosed_pair pair_of_two (listed (5 ∷ 7 ∷ [])) lift 7 ≡ false
unfolding unclosed_pair joins_afters joins_possible possible paired both double pair_start atoms sum_of listed any_of two_of some names
covered-beside-before = refl

-- The operator that takes both variables from 0 to 1: the pair of its after atoms, feature 7, is unclosed, that of its before atoms, feature 4, is not.
abbrev lift_both : Operator
lift_both = record { variable = 0; before = 0; after = 1 } ∷ record { variable = 1; before = 0; after = 1 } ∷ []

unclosed-afters : (unclosed_pair pair_of_two (listed (4 ∷ 7 ∷ [])) lift_both 7 ≡ true) × (unclosed_pair pair_of_two (listed (4 ∷ 7 ∷ [])) lift_both 4 ≡ false)
unfolding unclosed_pair joins_afters joins_possible possible paired both double pair_start atoms sum_of listed any_of two_of some names
unclosed-afters = (refl, refl)

-- The checker's lines, byte for byte: `accepted`.
accepted-line : verdict_line nowhere (done accepted) ≡ 97 ∷ 99 ∷ 99 ∷ 101 ∷ 112 ∷ 116 ∷ 101 ∷ 100 ∷ 10 ∷ []
unfolding verdict_line
accepted-line = refl

-- `rejected ends alike`.
alike-line : verdict_line nowhere (done ends_alike)
    ≡ 114 ∷ 101 ∷ 106 ∷ 101 ∷ 99 ∷ 116 ∷ 101 ∷ 100 ∷ 32 ∷ 101 ∷ 110 ∷ 100 ∷ 115 ∷ 32 ∷ 97 ∷ 108 ∷ 105 ∷ 107 ∷ 101 ∷ 10 ∷ []
unfolding verdict_line
alike-line = refl

-- `rejected operator 16382`: the last operator of the longest list.
operator-line : verdict_line nowhere (done (breaks 16382))
    ≡ 114 ∷ 101 ∷ 106 ∷ 101 ∷ 99 ∷ 116 ∷ 101 ∷ 100 ∷ 32 ∷ 111 ∷ 112 ∷ 101 ∷ 114 ∷ 97 ∷ 116 ∷ 111 ∷ 114 ∷ 32 ∷ 49 ∷ 54 ∷ 51 ∷ 56 ∷ 50 ∷ 10 ∷ []
unfolding verdict_line word digits
operator-line = refl

-- A number is written with all its digits, whatever files can count.
long-word : word 20971510 ≡ 32 ∷ 50 ∷ 48 ∷ 57 ∷ 55 ∷ 49 ∷ 53 ∷ 49 ∷ 48 ∷ []
unfolding word digits
long-word = refl

-- `refused 7`.
refused-line : verdict_line nowhere (refused 7) ≡ 114 ∷ 101 ∷ 102 ∷ 117 ∷ 115 ∷ 101 ∷ 100 ∷ 32 ∷ 55 ∷ 10 ∷ []
unfolding verdict_line refused_line file_text spot_text word digits
refused-line = refl

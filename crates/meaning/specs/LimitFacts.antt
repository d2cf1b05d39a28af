-- Small facts that pin down the limits (document 02, ticket 6): how far numbers, N and the slots of a bay go. Nothing else builds on them.
use Rattle.std.specs.Prelude.{ℕ, suc, ◌<◌, ◌≡◌, refl, true, false, List, [], ◌∷◌, leb, length}
use Rattle.std.proofs.Common.{lt-ltb}
use Rattle.meaning.specs.Limits.{least_size, most_size, most_features, least_slots, most_slots, number_end, most_task, most_weights}
use Rattle.meaning.specs.Feature.{sum_of, pairs_of, atoms, features}
use Rattle.meaning.specs.Number.{Endless, Limit, got, fault, groups, number, numbers_on}
use Rattle.meaning.specs.File.{inside, item, items_of, size_list, header, limited}
use Rattle.meaning.specs.Bay.{bay_sizes, side, sides_of}
use Rattle.meaning.specs.Partial.{built_sizes}
use Rattle.meaning.specs.Line.{too_long}
use Rattle.meaning.specs.Before.{as_before, number_by, numbers_on_by, item_by, items_by, limited_by, size_list_by, header_by, sides_by}

-- "Numbers take up to three groups, to 2,097,151".
up-to-three-groups : (number (128 ∷ 128 ∷ 1 ∷ []) 0 ≡ got 16384 3) × (number (255 ∷ 255 ∷ 127 ∷ []) 0 ≡ got 2097151 3) × (number_end ≡ suc 2097151)
unfolding number groups
up-to-three-groups = (refl, refl, refl)

-- "N may reach 32,768": the largest sum that is taken, and one more, which is placed at the last size.
n-reached : (features (54 ∷ 57 ∷ 57 ∷ 58 ∷ 59 ∷ []) ≡ 32768) × (header least_size most_size (5 ∷ 54 ∷ 57 ∷ 57 ∷ 58 ∷ 59 ∷ []) 0 ≡ got (54 ∷ 57 ∷ 57 ∷ 58 ∷ 59 ∷ []) 6)
unfolding header size_list items_of limited item number groups numbers_on features atoms pairs_of sum_of
n-reached = (refl, refl)

n_passed : (features (54 ∷ 57 ∷ 58 ∷ 58 ∷ 58 ∷ []) ≡ 32769) × (header least_size most_size (5 ∷ 54 ∷ 57 ∷ 58 ∷ 58 ∷ 58 ∷ []) 0 ≡ fault Limit 5)
unfolding header size_list items_of limited item number groups numbers_on features atoms pairs_of sum_of
n_passed = (refl, refl)

-- "A sixteen-slot bay has 30,976 features"; with "unknown" in each slot it would have 34,952, too many.
bay-of-sixteen : (features (bay_sizes 16) ≡ 30976) × (leb (features (bay_sizes 16)) most_features ≡ true)
    × (features (built_sizes (bay_sizes 16)) ≡ 34952) × (leb (features (built_sizes (bay_sizes 16))) most_features ≡ false)
unfolding features atoms pairs_of sum_of
bay-of-sixteen = (refl, refl, refl, refl)

-- "and n 16": four by four is taken and three by six is not; sides are 1 to 9 as before, so one by sixteen is refused for its columns.
sixteen-slots : (sides_of (4 ∷ 4 ∷ []) 0 ≡ got (4, 4) 2) × (sides_of (2 ∷ 8 ∷ []) 0 ≡ got (2, 8) 2) × (sides_of (3 ∷ 6 ∷ []) 0 ≡ fault Limit 1)
    × (inside least_slots (suc most_slots) 17 ≡ false) × (side (16 ∷ []) 0 ≡ fault Limit 0) × (side (9 ∷ []) 0 ≡ got 9 1)
unfolding sides_of limited item number groups numbers_on
sixteen-slots = (refl, refl, refl, refl, refl, refl)

-- Document 01: "FF 7F is 16,383, 80 00 and 80 80 01 are refused".
two-groups-before : (number_by as_before (255 ∷ 127 ∷ []) 0 ≡ got 16383 2) × (number_by as_before (128 ∷ 128 ∷ 1 ∷ []) 0 ≡ fault Endless 0)
unfolding number_by groups
two-groups-before = (refl, refl)

-- Document 01: "Sizes 64 and 62 give 4,094 and are taken; 64 and 63 give 4,159 and are refused". The latter are taken today.
n-before : (header_by as_before least_size most_size (2 ∷ 64 ∷ 62 ∷ []) 0 ≡ got (64 ∷ 62 ∷ []) 3) × (header_by as_before least_size most_size (2 ∷ 64 ∷ 63 ∷ []) 0 ≡ fault Limit 2)
    × (header least_size most_size (2 ∷ 64 ∷ 63 ∷ []) 0 ≡ got (64 ∷ 63 ∷ []) 3)
unfolding header_by size_list_by items_by limited_by item_by number_by numbers_on_by header size_list items_of limited item number numbers_on groups features atoms pairs_of sum_of
n-before = (refl, refl, refl)

-- Document 01: "rows times columns, n, is 2 to 9". Two by five is taken today.
nine-slots-before : (sides_by as_before (3 ∷ 3 ∷ []) 0 ≡ got (3, 3) 2) × (sides_by as_before (2 ∷ 5 ∷ []) 0 ≡ fault Limit 1) × (sides_of (2 ∷ 5 ∷ []) 0 ≡ got (2, 5) 2)
unfolding sides_by limited_by item_by number_by numbers_on_by sides_of limited item number numbers_on groups
nine-slots-before = (refl, refl, refl)

-- The checker program: either file may be too long beside an empty one.
too_long_lem : (file : List ℕ) → (most_task < length file → too_long file [] ≡ true) × (most_weights < length file → too_long [] file ≡ true)
too_long_lem file = (λ h. rw (lt-ltb most_task (length file) h) refl, λ h. rw (lt-ltb most_weights (length file) h) refl)

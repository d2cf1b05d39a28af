-- Files read with other limits (document 02, ticket 6): with today's limits the readers are today's, and what is accepted with narrower ones is accepted today as the same.
use Prim.Native.Nat.{ℕ, zero, suc, ◌+◌, ◌*◌, ◌^◌, ◌≤◌}
use Rattle.std.specs.Prelude.{◌≡◌, refl, Bool, cond, get_or, replicate, eqb, leb, ltb}
use Rattle.std.proofs.Common.{ap, ap₂, arith, le_trans}
use Rattle.std.proofs.Math.Path.{fun_ext}
use Rattle.std.proofs.Math.Bool.{true, false}
use mathlib.Core.List.{List, [], ◌∷◌}
use Rattle.std.proofs.Math.Nat.{pow-le-pow_right}
use Rattle.std.proofs.Math.ListN.{length}
use borrow.Author.Tests.{leb-true, le-leb, ltb-true, lt-ltb}
use Rattle.meaning.specs.Limits.{least_variables, most_variables, least_size, most_size, least_partial_size, most_partial_size, most_features, group, most_groups, least_side, most_side, least_slots, most_slots, number_end}
use Rattle.meaning.specs.Task.{Operator, Task, size}
use Rattle.meaning.specs.Feature.{atoms, features}
use Rattle.meaning.specs.Number.{Reason, Limit, Range, Unordered, Outgrown, got, fault, on_read, groups, number, place_after, numbers_on}
use Rattle.meaning.specs.File.{Parser, give, then, inside, item, limited, rising, items_of, size_list, header, plain, mark_of, feature_of, features_of, feature_list, entries_of, operator_of, operators_of, body_of, parts_of, task_as, judged_as, judged_task, judged_weights_as, judged_weights}
use Rattle.meaning.specs.Bay.{Bay, bay_sizes, sides_of, bay_of, judged_bay}
use Rattle.meaning.specs.Partial.{Partial, built_sizes, built_task, partial_header, goal_of, partial_of, judged_partial}
use Rattle.meaning.specs.Before.{Bounds, as_before, as_today, number_by, numbers_on_by, item_by, limited_by, rising_by, items_by, size_list_by, header_by, features_by, feature_list_by, entries_by, operator_by, operators_by, task_by, judged_task_by, judged_weights_by, sides_by, bay_by, judged_bay_by, partial_header_by, goal_by, partial_by, judged_partial_by}
use Rattle.theory.specs.Truth.{on, off, test}
use Rattle.theory.specs.Reading.{not-got, on-got, test-passed}
use Rattle.theory.specs.Accepted.{either-accepted}
use Rattle.theory.specs.PartialFile.{Follows, inside-wider, follows_same, follows_then, follows-tested}

-- ---- readers with other limits, beside today's

-- A number that has to pass a test, by any reader.
abbrev checked : (ℕ → Bool) → Reason → Parser ℕ → Parser ℕ
checked passes reason p bytes place = on_read (p bytes place) (λ n next. cond (passes n) (got n next) (fault reason place))

-- What a relation between readers has to carry over; then each reader with these limits is related to today's.
record Carries (bounds : Bounds) (Like : (A : Type 0) → Parser A → Parser A → Type 0) : Type 1 where
  pub same : {A : Type 0} (p : Parser A) → Like A p p
  pub in-turn : {A B : Type 0} {p q : Parser A} (r s : A → Parser B) → Like A p q → ((a : A) → Like B (r a) (s a)) → Like B (then p r) (then q s)
  pub numbers : Like ℕ (number_by bounds) number
  pub tested : {p q : Parser ℕ} (passes : ℕ → Bool) (reason : Reason) → Like ℕ p q → Like ℕ (checked passes reason p) (checked passes reason q)
  pub totals : {A : Type 0} {p q : Parser A} (total behind : A → ℕ) → Like A p q
      → Like A (limited_by bounds p (λ a. leb (total a) bounds.feature_limit) behind) (limited q (λ a. leb (total a) most_features) behind)
  pub slots : {A : Type 0} {p q : Parser A} (count behind : A → ℕ) → Like A p q
      → Like A (limited_by bounds p (λ a. inside least_slots (suc bounds.slot_limit) (count a)) behind) (limited q (λ a. inside least_slots (suc most_slots) (count a)) behind)

module _ {bounds : Bounds} {Like : (A : Type 0) → Parser A → Parser A → Type 0} (law : Carries bounds Like) where
  item-like : (passes : ℕ → Bool) (reason : Reason) → Like ℕ (item_by bounds passes reason) (item passes reason)
  unfolding item_by item
  item-like passes reason = law.tested passes reason law.numbers

  rising-like : (low high least : ℕ) → Like ℕ (rising_by bounds low high least) (rising low high least)
  unfolding rising_by rising
  rising-like low high least = law.tested (leb least) Unordered (item-like (inside low high) Range)

  items-like : (low : ℕ) (reason : Reason) (highs : List ℕ) → Like (List ℕ) (items_by bounds low reason highs) (items_of low reason highs)
  unfolding items_by items_of
  items-like low reason [] = law.same (give [])
  items-like low reason (high ∷ highs) = law.in-turn _ _ (item-like (inside low high) reason) (λ n. law.in-turn _ _ (items-like low reason highs) (λ ns. law.same (give (n ∷ ns))))

  sizes-like : (least most : ℕ) → Like (List ℕ) (size_list_by bounds least most) (size_list least most)
  unfolding size_list_by size_list
  sizes-like least most = law.in-turn _ _ (item-like (inside least_variables (suc most_variables)) Limit) (λ v. items-like least Limit (replicate v (suc most)))

  features-like : (k low high least : ℕ) → Like (List ℕ) (features_by bounds k low high least) (features_of plain k low high least)
  unfolding features_by features_of feature_of
  features-like zero low high least = law.same (give [])
  features-like (suc k) low high least = law.in-turn _ _ (rising-like low high least) (λ f. law.in-turn _ _ (features-like k low high (suc f)) (λ fs. law.same (give (f ∷ fs))))

  feature-list-like : (low high : ℕ) → Like (List ℕ) (feature_list_by bounds low high) (feature_list plain low high)
  unfolding feature_list_by feature_list
  feature-list-like low high = law.in-turn _ _ law.numbers (λ k. features-like k low high 0)

  entries-like : (sizes : List ℕ) (k least : ℕ) → Like Operator (entries_by bounds sizes k least) (entries_of sizes k least)
  unfolding entries_by entries_of
  entries-like sizes zero least = law.same (give [])
  entries-like sizes (suc k) least = law.in-turn _ _ (rising-like 0 (length sizes) least) (λ i. law.in-turn _ _ (item-like (inside 0 (size sizes i)) Range) (λ x.
      law.in-turn _ _ (item-like (inside 0 (size sizes i)) Range) (λ y. law.in-turn _ _ (entries-like sizes k (suc i)) (λ es. law.same _))))

  operators-like : (sizes : List ℕ) (k : ℕ) → Like (List Operator) (operators_by bounds sizes k) (operators_of sizes k)
  unfolding operators_by operators_of operator_by operator_of
  operators-like sizes zero = law.same (give [])
  operators-like sizes (suc k) = law.in-turn _ _ (law.in-turn _ _ (item-like (inside 1 (suc (length sizes))) Range) (λ n. entries-like sizes n 0)) (λ o.
      law.in-turn _ _ (operators-like sizes k) (λ os. law.same (give (o ∷ os))))

  task-like : Like Task (task_by bounds) (parts_of plain)
  unfolding task_by parts_of body_of header_by header
  task-like =
      law.in-turn _ _ (law.totals features length (sizes-like least_size most_size)) (λ sizes.
      law.in-turn _ _ (items-like 0 Range sizes) (λ start.
      law.in-turn _ _ (items-like 0 Range sizes) (λ goal.
      law.in-turn _ _ (feature-list-like (atoms sizes) (features sizes)) (λ pairs.
      law.in-turn _ _ law.numbers (λ k.
      law.in-turn _ _ (operators-like sizes k) (λ operators. law.same _))))))

  bay-like : Like Bay (bay_by bounds) bay_of
  unfolding bay_by bay_of sides_by sides_of
  bay-like =
      let side-like = item-like (inside least_side (suc most_side)) Limit in
      law.in-turn _ _ (law.slots (λ sides. sides.0 * sides.1) (λ _. 1) (law.in-turn _ _ side-like (λ r. law.in-turn _ _ side-like (λ c. law.same (give (r, c)))))) (λ sides.
      law.in-turn _ _ (items-like 0 Range (bay_sizes (sides.0 * sides.1))) (λ start.
      law.in-turn _ _ (items-like 0 Range (bay_sizes (sides.0 * sides.1))) (λ goal. law.same _)))

  goal-like : (sizes marks : List ℕ) → Like (List ℕ) (goal_by bounds sizes marks) (goal_of sizes marks)
  unfolding goal_by goal_of
  goal-like [] marks = law.same (give [])
  goal-like (d ∷ ds) [] = law.same (give [])
  goal-like (d ∷ ds) (m ∷ ms) = law.in-turn _ _ (one (eqb m 1)) (λ x. law.in-turn _ _ (goal-like ds ms) (λ xs. law.same (give (x ∷ xs))))
    where
      one : (b : Bool) → Like ℕ (cond b (item_by bounds (inside 0 d) Range) (give d)) (cond b (item (inside 0 d) Range) (give d))
      one true = item-like (inside 0 d) Range
      one false = law.same (give d)

  partial-like : Like Partial (partial_by bounds) partial_of
  unfolding partial_by partial_of partial_header_by partial_header
  partial-like =
      law.in-turn _ _ (law.totals (λ sizes. features (built_sizes sizes)) length (sizes-like least_partial_size most_partial_size)) (λ sizes.
      law.in-turn _ _ (items-like 0 Range (replicate (length sizes) 2)) (λ marks.
      law.in-turn _ _ (items-like 0 Range sizes) (λ start.
      law.in-turn _ _ (goal-like sizes marks) (λ goal.
      law.in-turn _ _ (feature-list-like (atoms sizes) (features sizes)) (λ pairs.
      law.in-turn _ _ law.numbers (λ k.
      law.in-turn _ _ (operators-like sizes k) (λ operators. law.same _)))))))

-- ---- with today's limits they are today's readers

numbers-today : (k : ℕ) (bytes : List ℕ) (place : ℕ) → numbers_on_by as_today k bytes place ≡ numbers_on k bytes place
unfolding numbers_on_by numbers_on number_by number
numbers-today zero bytes place = refl
numbers-today (suc k) bytes place = ap (place_after (number bytes place) place) (fun_ext (numbers-today k bytes))

limited-today : {A : Type 0} {p q : Parser A} (passes : A → Bool) (behind : A → ℕ) → p ≡ q → limited_by as_today p passes behind ≡ limited q passes behind
unfolding limited_by limited
limited-today passes behind e = rw e (fun_ext (λ bytes. fun_ext (λ place. simp numbers-today)))

-- Equality is such a relation.
today : Carries as_today (λ A p q. p ≡ q)
unfolding number_by number
today = record {
  same = λ p. refl;
  in-turn = λ r s h k. ap₂ then h (fun_ext k);
  numbers = refl;
  tested = λ passes reason. ap (checked passes reason);
  totals = λ total. limited-today _;
  slots = λ count. limited-today _;
}

-- Files of the old kind.
pub task-today : (bytes : List ℕ) → judged_task_by as_today bytes ≡ judged_as plain bytes
unfolding judged_task_by judged_as task_as mark_of
task-today bytes = rw (task-like today)

pub weights-today : (n : ℕ) (bytes : List ℕ) → judged_weights_by as_today n bytes ≡ judged_weights n bytes
unfolding judged_weights_by judged_weights_as mark_of
weights-today n bytes = rw (feature-list-like today 0 n)

pub bay-today : (bytes : List ℕ) → judged_bay_by as_today bytes ≡ judged_bay bytes
unfolding judged_bay_by judged_bay
bay-today bytes = rw (bay-like today)

pub partial-today : (out : Partial → ℕ → ℕ → Bool) (bytes : List ℕ) → judged_partial_by as_today out bytes ≡ judged_partial out bytes
unfolding judged_partial_by judged_partial
partial-today out bytes = rw (partial-like today)

-- ---- what is accepted with narrower limits is accepted today, as the same

-- No limit is above today's.
pub record Narrow (bounds : Bounds) : Type 0 where
  pub group_limit : bounds.group_limit ≤ most_groups
  pub feature_limit : bounds.feature_limit ≤ most_features
  pub slot_limit : bounds.slot_limit ≤ most_slots

-- A number that fits in fewer groups is the same number in more.
groups-wider : (k more first : ℕ) (bytes : List ℕ) (place n next : ℕ) → k ≤ more → groups k first bytes place ≡ got n next → groups more first bytes place ≡ got n next
unfolding groups
groups-wider zero more first bytes place n next h e = absurd (not-got e)
groups-wider (suc k) zero first bytes place n next h e = absurd (omega arith)
groups-wider (suc k) (suc more) first bytes place n next h e =
    let (begun, q) = test-passed (ltb place (length bytes)) _ _ first n next e in
    elim (test (ltb (get_or bytes place 0) group)) [
      | on c ↦ rw (begun, c) (rw c at q)
      | off c ↦ let (high, middle, p, r) = on-got (groups k first bytes (place + 1)) _ n next (rw c at q) in
          rw (begun, c, groups-wider k more first bytes (place + 1) high middle (omega arith) p) r
    ]

module _ (bounds : Bounds) (narrow : Narrow bounds) (bytes : List ℕ) where
  -- That what is read is read by the other is such a relation.
  kept : Carries bounds (λ A. Follows bytes)
  unfolding number_by number limited_by limited
  kept = record {
    same = follows_same;
    in-turn = follows_then;
    numbers = record { follows = λ place n next e. groups-wider bounds.group_limit most_groups place bytes place n next narrow.group_limit e };
    tested = λ passes reason h. follows-tested passes passes reason _ _ h (λ n t. t);
    totals = λ total behind h. follows-tested _ _ Limit _ _ h (λ a t. le-leb (total a) most_features (le_trans (leb-true (total a) bounds.feature_limit t) narrow.feature_limit));
    slots = λ count behind h. follows-tested _ _ Limit _ _ h (λ a. inside-wider least_slots (suc bounds.slot_limit) (suc most_slots) (count a) (omega (arith, narrow.slot_limit)));
  }

  pub task-kept : (T : Task) (next : ℕ) → judged_task_by bounds bytes ≡ got T next → judged_task bytes ≡ got T next
  unfolding judged_task_by judged_as task_as mark_of
  task-kept T next e =
      let (S, middle, p, q) = on-got (task_by bounds bytes 0) _ T next e in
      either-accepted bytes plain T next (rw ((task-like kept).follows 0 S middle p) q)

  pub weights-kept : (n : ℕ) (weights : List ℕ) (next : ℕ) → judged_weights_by bounds n bytes ≡ got weights next → judged_weights n bytes ≡ got weights next
  unfolding judged_weights_by judged_weights_as mark_of
  weights-kept n weights next e = let (fs, middle, p, q) = on-got (feature_list_by bounds 0 n bytes 0) _ weights next e in rw ((feature-list-like kept 0 n).follows 0 fs middle p) q

  pub bay-kept : (b : Bay) (next : ℕ) → judged_bay_by bounds bytes ≡ got b next → judged_bay bytes ≡ got b next
  unfolding judged_bay_by judged_bay
  bay-kept b next e = let (c, middle, p, q) = on-got (bay_by bounds bytes 0) _ b next e in rw ((bay-like kept).follows 0 c middle p) q

  pub partial-kept : (out : Partial → ℕ → ℕ → Bool) (T : Task) (next : ℕ) → judged_partial_by bounds out bytes ≡ got T next → judged_partial out bytes ≡ got T next
  unfolding judged_partial_by judged_partial
  partial-kept out T next e =
      let (P, middle, p, q) = on-got (partial_by bounds bytes 0) _ T next e in
      let n = length (built_task P (out P)).operators in
      let (few, r) = test-passed (ltb n (group ^ bounds.group_limit)) _ Outgrown 0 T next q in
      let more : group ^ bounds.group_limit ≤ number_end = pow-le-pow_right (omega arith) narrow.group_limit in
      rw ((partial-like kept).follows 0 P middle p, lt-ltb n number_end (omega (arith, ltb-true n (group ^ bounds.group_limit) few))) r

-- ---- "Files accepted so far mean what they meant."

before-narrow : Narrow as_before
before-narrow = record { group_limit = omega arith; feature_limit = omega arith; slot_limit = omega arith }

module _ (bytes : List ℕ) where
  pub still-accepted : (T : Task) (next : ℕ) → judged_task_by as_before bytes ≡ got T next → judged_task bytes ≡ got T next
  still-accepted = task-kept as_before before-narrow bytes

  pub still-accepted-weights : (n : ℕ) (weights : List ℕ) (next : ℕ) → judged_weights_by as_before n bytes ≡ got weights next → judged_weights n bytes ≡ got weights next
  still-accepted-weights = weights-kept as_before before-narrow bytes

  pub still-accepted-bay : (b : Bay) (next : ℕ) → judged_bay_by as_before bytes ≡ got b next → judged_bay bytes ≡ got b next
  still-accepted-bay = bay-kept as_before before-narrow bytes

  pub still-accepted-partial : (out : Partial → ℕ → ℕ → Bool) (T : Task) (next : ℕ) → judged_partial_by as_before out bytes ≡ got T next → judged_partial out bytes ≡ got T next
  still-accepted-partial = partial-kept as_before before-narrow bytes

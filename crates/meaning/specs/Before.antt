-- Files as they are read with other limits than today's (document 02, ticket 6): every reader that one of these limits reaches, over the groups of a number, N and the
-- slots of a bay. The words are those of File, Bay and Partial; that with today's limits these readers are those is shown in theory.
use Rattle.std.specs.Prelude.{ℕ, zero, suc, ◌*◌, ◌^◌, Bool, cond, List, [], ◌∷◌, length, replicate, eqb, leb, ltb}
use Rattle.meaning.specs.Limits.{least_variables, most_variables, least_size, most_size, least_partial_size, most_partial_size, most_features, group, most_groups, least_side, most_side, least_slots, most_slots}
use Rattle.meaning.specs.Task.{Operator, Task, size}
use Rattle.meaning.specs.Feature.{atoms, features}
use Rattle.meaning.specs.Number.{Reason, Limit, Range, Unordered, Outgrown, Read, got, fault, on_read, groups, place_after}
use Rattle.meaning.specs.File.{Parser, give, then, inside, ended, judged_pairs}
use Rattle.meaning.specs.Bay.{Bay, slot_count, bay_sizes, judged_lots}
use Rattle.meaning.specs.Partial.{Partial, built_sizes, built_task}

-- The limits that moved.
pub record Bounds : Type 0 where
  pub group_limit : ℕ
  pub feature_limit : ℕ
  pub slot_limit : ℕ

-- Document 01: a number takes "two bytes at most", "N at most 4,096", "rows times columns, n, is 2 to 9".
abbrev pub as_before : Bounds
as_before = record { group_limit = 2; feature_limit = 4096; slot_limit = 9 }

-- The limits of every other reader.
abbrev pub as_today : Bounds
as_today = record { group_limit = most_groups; feature_limit = most_features; slot_limit = most_slots }

module _ (bounds : Bounds) where
  -- ---- numbers, and reading in turn

  unfoldable pub number_by : Parser ℕ
  number_by bytes place = groups bounds.group_limit place bytes place

  unfoldable pub numbers_on_by : ℕ → List ℕ → ℕ → ℕ
  numbers_on_by zero bytes place = place
  numbers_on_by (suc k) bytes place = place_after (number_by bytes place) place (numbers_on_by k bytes)

  unfoldable pub item_by : (ℕ → Bool) → Reason → Parser ℕ
  item_by test reason bytes place = on_read (number_by bytes place) (λ n next. cond (test n) (got n next) (fault reason place))

  unfoldable pub limited_by : {A : Type 0} → Parser A → (A → Bool) → (A → ℕ) → Parser A
  limited_by first test behind bytes place =
      on_read (first bytes place) (λ a next. cond (test a) (got a next) (fault Limit (numbers_on_by (behind a) bytes place)))

  unfoldable pub rising_by : ℕ → ℕ → ℕ → Parser ℕ
  rising_by low high least bytes place =
      on_read (item_by (inside low high) Range bytes place) (λ n next. cond (leb least n) (got n next) (fault Unordered place))

  unfoldable pub items_by : ℕ → Reason → List ℕ → Parser (List ℕ)
  items_by low reason [] = give []
  items_by low reason (high ∷ highs) =
      then (item_by (inside low high) reason) (λ n. then (items_by low reason highs) (λ ns. give (n ∷ ns)))

  -- ---- a task file

  abbrev pub sizes_by : ℕ → ℕ → ℕ → Parser (List ℕ)
  sizes_by least most v = items_by least Limit (replicate v (suc most))

  unfoldable pub size_list_by : ℕ → ℕ → Parser (List ℕ)
  size_list_by least most = then (item_by (inside least_variables (suc most_variables)) Limit) (sizes_by least most)

  unfoldable pub header_by : ℕ → ℕ → Parser (List ℕ)
  header_by least most = limited_by (size_list_by least most) (λ sizes. leb (features sizes) bounds.feature_limit) length

  abbrev pub values_by : List ℕ → Parser (List ℕ)
  values_by sizes = items_by 0 Range sizes

  unfoldable pub features_by : ℕ → ℕ → ℕ → ℕ → Parser (List ℕ)
  features_by zero low high least = give []
  features_by (suc k) low high least =
      then (rising_by low high least) (λ f. then (features_by k low high (suc f)) (λ fs. give (f ∷ fs)))

  unfoldable pub feature_list_by : ℕ → ℕ → Parser (List ℕ)
  feature_list_by low high = then number_by (λ k. features_by k low high 0)

  unfoldable pub entries_by : List ℕ → ℕ → ℕ → Parser Operator
  entries_by sizes zero least = give []
  entries_by sizes (suc k) least =
      then (rising_by 0 (length sizes) least)
      (λ i. then (item_by (inside 0 (size sizes i)) Range)
      (λ x. then (item_by (inside 0 (size sizes i)) Range)
      (λ y. then (entries_by sizes k (suc i)) (λ es. give (record { variable = i; before = x; after = y } ∷ es)))))

  unfoldable pub operator_by : List ℕ → Parser Operator
  operator_by sizes = then (item_by (inside 1 (suc (length sizes))) Range) (λ k. entries_by sizes k 0)

  unfoldable pub operators_by : List ℕ → ℕ → Parser (List Operator)
  operators_by sizes zero = give []
  operators_by sizes (suc k) = then (operator_by sizes) (λ o. then (operators_by sizes k) (λ os. give (o ∷ os)))

  unfoldable pub task_by : Parser Task
  task_by =
      then (header_by least_size most_size)
      (λ sizes. then (values_by sizes)
      (λ start. then (values_by sizes)
      (λ goal. then (feature_list_by (atoms sizes) (features sizes))
      (λ pairs. then number_by
      (λ k. then (operators_by sizes k)
      (λ operators. then ended
      (λ _. give (record { sizes = sizes; start = start; goal = goal; pairs = pairs; operators = operators }))))))))

  unfoldable pub judged_task_by : List ℕ → Read Task
  judged_task_by bytes = on_read (task_by bytes 0) judged_pairs

  -- ---- a weight file

  unfoldable pub judged_weights_by : ℕ → List ℕ → Read (List ℕ)
  judged_weights_by n bytes = then (feature_list_by 0 n) (λ weights. then ended (λ _. give weights)) bytes 0

  -- ---- a bay file

  abbrev pub side_by : Parser ℕ
  side_by = item_by (inside least_side (suc most_side)) Limit

  unfoldable pub sides_by : Parser (ℕ × ℕ)
  sides_by =
      limited_by (then side_by (λ r. then side_by (λ c. give (r, c)))) (λ sides. inside least_slots (suc bounds.slot_limit) (sides.0 * sides.1)) (λ _. 1)

  unfoldable pub bay_by : Parser Bay
  bay_by =
      then sides_by
      (λ sides. then (values_by (bay_sizes (sides.0 * sides.1)))
      (λ start. then (values_by (bay_sizes (sides.0 * sides.1)))
      (λ goal. then ended (λ _. give (record { rows = sides.0; columns = sides.1; start = start; goal = goal })))))

  unfoldable pub judged_bay_by : List ℕ → Read Bay
  judged_bay_by bytes = on_read (bay_by bytes 0) (λ b next. judged_lots (slot_count b) b.start b.goal (got b next))

  -- ---- a partial file

  unfoldable pub partial_header_by : Parser (List ℕ)
  partial_header_by =
      limited_by (size_list_by least_partial_size most_partial_size) (λ sizes. leb (features (built_sizes sizes)) bounds.feature_limit) length

  abbrev pub marks_by : ℕ → Parser (List ℕ)
  marks_by v = items_by 0 Range (replicate v 2)

  unfoldable pub goal_by : List ℕ → List ℕ → Parser (List ℕ)
  goal_by [] marks = give []
  goal_by (d ∷ ds) [] = give []
  goal_by (d ∷ ds) (m ∷ ms) =
      then (cond (eqb m 1) (item_by (inside 0 d) Range) (give d)) (λ x. then (goal_by ds ms) (λ xs. give (x ∷ xs)))

  unfoldable pub partial_by : Parser Partial
  partial_by =
      then partial_header_by
      (λ sizes. then (marks_by (length sizes))
      (λ marks. then (values_by sizes)
      (λ start. then (goal_by sizes marks)
      (λ goal. then (feature_list_by (atoms sizes) (features sizes))
      (λ pairs. then number_by
      (λ k. then (operators_by sizes k)
      (λ operators. then ended
      (λ _. give (record { sizes = sizes; start = start; goal = goal; pairs = pairs; operators = operators })))))))))

  -- The operators of the built task are counted by a number of so many groups.
  unfoldable pub judged_partial_by : (Partial → ℕ → ℕ → Bool) → List ℕ → Read Task
  judged_partial_by out bytes =
      on_read (partial_by bytes 0)
      (λ P next. cond (ltb (length (built_task P (out P)).operators) (group ^ bounds.group_limit))
      (judged_pairs (built_task P (out P)) next)
      (fault Outgrown 0))

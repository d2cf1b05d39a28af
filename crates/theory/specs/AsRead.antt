-- What a reader faults with is what is judged as numbers are read, or 5: never a reason that is judged after these.
use Prim.Native.Nat.{ℕ, zero, suc, ◌+◌, ◌≤◌}
use Rattle.std.specs.Prelude.{◌≡◌, ◌⊎◌, Bool, ◌||◌, cond, eqb, leb, ltb, length, get_or, replicate}
use Rattle.std.proofs.Math.Path.{refl}
use Rattle.std.proofs.Common.{sym, inl, inr, true≢false, arith}
use Rattle.std.proofs.Math.Bool.{true, false}
use mathlib.Core.List.{List, [], ◌∷◌}
use Rattle.meaning.specs.Limits.{least_size, most_size, least_partial_size, most_partial_size, group, most_groups}
use Rattle.meaning.specs.Feature.{atoms, features}
use Rattle.meaning.specs.Number.{Reason, Ends, Padded, Endless, Limit, Range, Unordered, LeftOver, Outgrown, Held, Unclosed, Small, Malformed, Gaps, Unequal, refusal, has_place, Read, got, fault, on_read, groups, number}
use Rattle.meaning.specs.File.{Parser, give, then, inside, item, judge, limited, rising, ended, items_of, size_list, header, Kind, gapped, kind_of, mark_of, feature_of, features_of, feature_list, entries_of, operator_of, operators_of, body_of, parts_of, task_as, task_of}
use Rattle.meaning.specs.File as File
use Rattle.meaning.specs.Partial.{partial_header, goal_of, partial_of}
use Rattle.theory.specs.Reading.{not-got}

-- A reason that has a place, or 5.
abbrev pub as_read : Reason → Bool
as_read reason = has_place reason || eqb (refusal reason) (refusal LeftOver)

-- Its number is one from 1 to 5, or 12 or 13.
abbrev pub ReadNumber : ℕ → Type 0
ReadNumber n = ((1 ≤ n) × (n ≤ refusal LeftOver)) ⊎ ((refusal Padded ≤ n) × (n ≤ refusal Endless))

pub as-read-number : (reason : Reason) → as_read reason ≡ true → ReadNumber (refusal reason)
as-read-number Ends e = inl (omega arith, omega arith)
as-read-number Padded e = inr (omega arith, omega arith)
as-read-number Endless e = inr (omega arith, omega arith)
as-read-number Limit e = inl (omega arith, omega arith)
as-read-number Range e = inl (omega arith, omega arith)
as-read-number Unordered e = inl (omega arith, omega arith)
as-read-number LeftOver e = inl (omega arith, omega arith)
as-read-number Outgrown e = absurd (true≢false (sym e))
as-read-number Held e = absurd (true≢false (sym e))
as-read-number Unclosed e = absurd (true≢false (sym e))
as-read-number Small e = absurd (true≢false (sym e))
as-read-number Malformed e = absurd (true≢false (sym e))
as-read-number Gaps e = absurd (true≢false (sym e))
as-read-number Unequal e = absurd (true≢false (sym e))

-- A fault, if there is one, has a reason that passes a test,
pub record FaultsAmong (passes : Reason → Bool) {A : Type 0} (r : Read A) : Type 0 where
  pub reasoned : (reason : Reason) (place : ℕ) → r ≡ fault reason place → passes reason ≡ true

-- such a reason.
abbrev pub AsRead : {A : Type 0} → Read A → Type 0
AsRead r = FaultsAmong as_read r

-- ---- how such statements are put together

-- The three ways in which a number is badly formed pass.
abbrev pub Formed : (Reason → Bool) → Type 0
Formed passes = (passes Ends ≡ true) × (passes Padded ≡ true) × (passes Endless ≡ true)

module _ {passes : Reason → Bool} where
  pub got-among : {A : Type 0} (a : A) (next : ℕ) → FaultsAmong passes (got a next)
  got-among a next = record { reasoned = λ reason place e. absurd (not-got (sym e)) }

  pub fault-among : {A : Type 0} (reason : Reason) (place : ℕ) → passes reason ≡ true → FaultsAmong passes {A = A} (fault reason place)
  fault-among reason place h = record { reasoned = λ other at e. let z : reason ≡ other = cc in rw (← z) h }

  pub on-among : {A B : Type 0} (r : Read A) (rest : A → ℕ → Read B) → FaultsAmong passes r → ((a : A) (next : ℕ) → FaultsAmong passes (rest a next)) → FaultsAmong passes (on_read r rest)
  on-among (got a next) rest h k = k a next
  on-among (fault reason place) rest h k = fault-among reason place (h.reasoned reason place refl)

  pub if-among : {A : Type 0} (b : Bool) (r s : Read A) → FaultsAmong passes r → FaultsAmong passes s → FaultsAmong passes (cond b r s)
  if-among true r s h k = h
  if-among false r s h k = k

  pub tested-among : {A : Type 0} (b : Bool) (a : A) (next : ℕ) (reason : Reason) (place : ℕ) → passes reason ≡ true → FaultsAmong passes (cond b (got a next) (fault reason place))
  tested-among b a next reason place h = if-among b _ _ (got-among a next) (fault-among reason place h)

  -- ---- readers

  groups-among : (bytes : List ℕ) (k first place : ℕ) → Formed passes → FaultsAmong passes (groups k first bytes place)
  unfolding groups
  groups-among bytes zero first place formed = fault-among Endless first formed.2
  groups-among bytes (suc k) first place formed = if-among (ltb place (length bytes)) _ _
      (if-among (ltb (get_or bytes place 0) group) _ _ (got-among _ _)
      (on-among (groups k first bytes (place + 1)) _ (groups-among bytes k first (place + 1) formed)
      (λ high next. if-among (eqb high 0) _ _ (fault-among Padded first formed.1) (got-among _ _))))
      (fault-among Ends first formed.0)

  pub number-among : (bytes : List ℕ) (place : ℕ) → Formed passes → FaultsAmong passes (number bytes place)
  unfolding number
  number-among bytes place = groups-among bytes most_groups place place

  pub item-among : (test : ℕ → Bool) (reason : Reason) (bytes : List ℕ) (place : ℕ) → Formed passes → passes reason ≡ true → FaultsAmong passes (item test reason bytes place)
  unfolding item
  item-among test reason bytes place formed h = on-among (number bytes place) _ (number-among bytes place formed) (λ n next. tested-among (test n) n next reason place h)

  pub ended-among : (bytes : List ℕ) (place : ℕ) → passes LeftOver ≡ true → FaultsAmong passes (ended bytes place)
  unfolding ended judge
  ended-among bytes place h = by (leb (length bytes) place)
    where
      by : (b : Bool) → FaultsAmong passes (judge b LeftOver bytes place)
      by true = got-among tt place
      by false = fault-among LeftOver place h

-- A reader whose faults are such, in some bytes.
pub record Plain {A : Type 0} (bytes : List ℕ) (p : Parser A) : Type 0 where
  pub plain : (place : ℕ) → AsRead (p bytes place)

module _ {bytes : List ℕ} where
  pub plain_then : {A B : Type 0} {p : Parser A} (r : A → Parser B) → Plain bytes p → ((a : A) → Plain bytes (r a)) → Plain bytes (then p r)
  plain_then {p = p} r h k = record { plain = λ place. on-among (p bytes place) _ (h.plain place) (λ a next. (k a).plain next) }

  pub plain-give : {A : Type 0} (a : A) → Plain bytes (give a)
  plain-give a = record { plain = λ place. got-among a place }

  pub plain-number : Plain bytes number
  plain-number = record { plain = λ place. number-among bytes place (refl, refl, refl) }

  pub plain-item : (test : ℕ → Bool) (reason : Reason) → as_read reason ≡ true → Plain bytes (item test reason)
  plain-item test reason h = record { plain = λ place. item-among test reason bytes place (refl, refl, refl) h }

  pub plain-items : (low : ℕ) (reason : Reason) → as_read reason ≡ true → (bounds : List ℕ) → Plain bytes (items_of low reason bounds)
  unfolding items_of
  plain-items low reason h [] = plain-give []
  plain-items low reason h (bound ∷ bounds) = plain_then _ (plain-item (inside low bound) reason h) (λ n. plain_then _ (plain-items low reason h bounds) (λ ns. plain-give (n ∷ ns)))

  pub plain-limited : {A : Type 0} (p : Parser A) (test : A → Bool) (behind : A → ℕ) → Plain bytes p → Plain bytes (limited p test behind)
  unfolding limited
  plain-limited p test behind h = record { plain = λ place. on-among (p bytes place) _ (h.plain place) (λ a next. tested-among (test a) a next Limit _ refl) }

  pub plain-sizes : (least most : ℕ) → Plain bytes (size_list least most)
  unfolding size_list
  plain-sizes least most = plain_then _ (plain-item _ Limit refl) (λ v. plain-items least Limit refl (replicate v (suc most)))

  plain-rising : (low high least : ℕ) → Plain bytes (rising low high least)
  unfolding rising
  plain-rising low high least = record {
    plain = λ place. on-among (item (inside low high) Range bytes place) _ ((plain-item (inside low high) Range refl).plain place)
        (λ n next. tested-among (leb least n) n next Unordered place refl);
  }

  plain-feature : (kind : Kind) (low high least : ℕ) → Plain bytes (feature_of kind low high least)
  unfolding feature_of
  plain-feature File.plain low high least = plain-rising low high least
  plain-feature gapped low high least = record {
    plain = λ place. on-among (number bytes place) _ (plain-number.plain place) (λ n next. tested-among (inside low high (least + n)) (least + n) next Range place refl);
  }

  plain-features : (kind : Kind) (k low high least : ℕ) → Plain bytes (features_of kind k low high least)
  unfolding features_of
  plain-features kind zero low high least = plain-give []
  plain-features kind (suc k) low high least =
      plain_then _ (plain-feature kind low high least) (λ f. plain_then _ (plain-features kind k low high (suc f)) (λ fs. plain-give (f ∷ fs)))

  pub plain-feature-list : (kind : Kind) (low high : ℕ) → Plain bytes (feature_list kind low high)
  unfolding feature_list
  plain-feature-list kind low high = plain_then _ plain-number (λ k. plain-features kind k low high 0)

  plain-entries : (sizes : List ℕ) (k least : ℕ) → Plain bytes (entries_of sizes k least)
  unfolding entries_of
  plain-entries sizes zero least = plain-give []
  plain-entries sizes (suc k) least = plain_then _ (plain-rising 0 (length sizes) least) (λ i. plain_then _ (plain-item _ Range refl) (λ x. plain_then _ (plain-item _ Range refl) (λ y.
      plain_then _ (plain-entries sizes k (suc i)) (λ es. plain-give (record { variable = i; before = x; after = y } ∷ es)))))

  pub plain-operators : (sizes : List ℕ) (k : ℕ) → Plain bytes (operators_of sizes k)
  unfolding operators_of operator_of
  plain-operators sizes zero = plain-give []
  plain-operators sizes (suc k) = plain_then _ (plain_then _ (plain-item _ Range refl) (λ n. plain-entries sizes n 0)) (λ o. plain_then _ (plain-operators sizes k) (λ os. plain-give (o ∷ os)))

  pub plain-ended : Plain bytes ended
  plain-ended = record { plain = λ place. ended-among bytes place refl }

  -- ---- a task file

  plain-mark : (kind : Kind) → Plain bytes (mark_of kind)
  unfolding mark_of
  plain-mark File.plain = plain-give tt
  plain-mark gapped = plain_then _ (plain-item _ Range refl) (λ n. plain-give tt)

  pub plain-task-as : (kind : Kind) → Plain bytes (task_as kind)
  unfolding task_as parts_of body_of header
  plain-task-as kind =
      plain_then _ (plain-mark kind) (λ _.
      plain_then _ (plain-limited _ _ _ (plain-sizes least_size most_size)) (λ sizes.
      plain_then _ (plain-items 0 Range refl sizes) (λ start.
      plain_then _ (plain-items 0 Range refl sizes) (λ goal.
      plain_then _ (plain-feature-list kind (atoms sizes) (features sizes)) (λ pairs.
      plain_then _ plain-number (λ k.
      plain_then _ (plain-operators sizes k) (λ operators.
      plain_then _ plain-ended (λ _. plain-give _))))))))

  pub plain-task : Plain bytes task_of
  unfolding task_of
  plain-task = record { plain = λ place. (plain-task-as (kind_of bytes place)).plain place }

  -- ---- a partial file

  plain-goal : (sizes marks : List ℕ) → Plain bytes (goal_of sizes marks)
  unfolding goal_of
  plain-goal [] marks = plain-give []
  plain-goal (d ∷ ds) [] = plain-give []
  plain-goal (d ∷ ds) (m ∷ ms) = plain_then _ (one (eqb m 1)) (λ x. plain_then _ (plain-goal ds ms) (λ xs. plain-give (x ∷ xs)))
    where
      one : (b : Bool) → Plain bytes (cond b (item (inside 0 d) Range) (give d))
      one true = plain-item (inside 0 d) Range refl
      one false = plain-give d

  pub plain-partial : Plain bytes partial_of
  unfolding partial_of partial_header
  plain-partial =
      plain_then _ (plain-limited _ _ _ (plain-sizes least_partial_size most_partial_size)) (λ sizes.
      plain_then _ (plain-items 0 Range refl (replicate (length sizes) 2)) (λ marks.
      plain_then _ (plain-items 0 Range refl sizes) (λ start.
      plain_then _ (plain-goal sizes marks) (λ goal.
      plain_then _ (plain-feature-list File.plain (atoms sizes) (features sizes)) (λ pairs.
      plain_then _ plain-number (λ k.
      plain_then _ (plain-operators sizes k) (λ operators.
      plain_then _ plain-ended (λ _. plain-give _))))))))

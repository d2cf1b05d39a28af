-- What comes of a bay file, in the steps of the code: what is read or judged decides, or what is read next.
use Rattle.std.specs.Prelude.{ℕ, suc, ◌*◌, ◌<◌, ◌≤◌, ◌≡◌, Bool, true, false, cond, List, ◌++◌, length, take}
use Rattle.std.proofs.Math.Path.{refl, ap, fun_ext}
use Rattle.std.proofs.Common.{sym, ◌∙◌, subst, arith, mul-le-mul, take_at}
use borrow.Author.Tests.{lt-leb, le-leb, lt-ltb, le-ltb}
use Rattle.meaning.specs.Limits.{least_side, most_side, least_slots, most_slots}
use Rattle.meaning.specs.Number.{Reason, Limit, LeftOver, Gaps, Unequal, Read, got, fault, on_read, numbers_on}
use Rattle.meaning.specs.File.{inside, judge, limited, ended, values_of}
use Rattle.meaning.specs.Answer.{Outcome}
use Rattle.meaning.specs.Bay.{Bay, slot_count, bay_sizes, side, sides_of, bay_of, one_gap, equal_lots, judged_lots, judged_bay, neighbours, bay_task, Builds}
use Rattle.meaning.specs.Place.{Spot, nowhere, in_task, fault_spot, spot_alone}
use Rattle.theory.specs.Reading.{got-value, on-got, on-on, item-read}
use Rattle.theory.specs.Parts.{item-said, values-said}
use Rattle.theory.specs.BayMoves.{bay-length}
use Rattle.theory.specs.BayTask.{ReadableBay, sides-said}
use Rattle.sliding.specs.Parts.{built_in}
use Rattle.sliding.specs.Readers.{near_table, task-table, made_of, made_so, built-made}
use Rattle.building.specs.Answers.{bay_with, labelled, judged}

-- ---- labels are judged

module _ (b : Bay) (readable : ReadableBay b) where
  pub built-judged : (near room : List ℕ) (next : ℕ) → near ≡ near_table (slot_count b * slot_count b) (slot_count b) (neighbours b.columns)
      → built_in near b.start b.goal room ≡ made_of bay_task (judged (got b next)) room
  built-judged near room next e = let n = slot_count b in let long = bay-length n b.start readable.start-state in
      built-made bay_task near b.start b.goal room n b next long (rw e (task-table n (neighbours b.columns) b.start b.goal long))

-- ---- what stands behind the sides

module _ (n : ℕ) (bytes : List ℕ) (at : ℕ) where
  pub start-fault : (reason : Reason) (place : ℕ) → values_of (bay_sizes n) bytes at ≡ fault reason place → fault reason place ≡ labelled n bytes at
  unfolding labelled
  start-fault reason place e = rw e refl

  module _ (start : List ℕ) (next : ℕ) (e : values_of (bay_sizes n) bytes at ≡ got start next) where
    pub goal-fault : (reason : Reason) (place : ℕ) → values_of (bay_sizes n) bytes next ≡ fault reason place → fault reason place ≡ labelled n bytes at
    unfolding labelled
    goal-fault reason place q = rw (e, q) refl

    module _ (goal : List ℕ) (end : ℕ) (q : values_of (bay_sizes n) bytes next ≡ got goal end) where
      pub left_over : end < length bytes → fault LeftOver end ≡ labelled n bytes at
      unfolding labelled ended judge
      left_over h = rw (e, q, lt-leb (length bytes) end h) refl

      pub labelled-whole : length bytes ≤ end → got (start, goal) end ≡ labelled n bytes at
      unfolding labelled ended judge
      labelled-whole h = rw (e, q, le-leb (length bytes) end h) refl

-- As many labels were read as there are slots.
labels-long : (n : ℕ) (bytes : List ℕ) (at : ℕ) (start goal : List ℕ) (next : ℕ) → labelled n bytes at ≡ got (start, goal) next → (length start ≡ n) × (length goal ≡ n)
unfolding labelled
labels-long n bytes at start goal next e =
    let (s, middle, p, q) = on-got (values_of (bay_sizes n) bytes at) _ (start, goal) next e in
    let (g, end, r, t) = on-got (values_of (bay_sizes n) bytes middle) _ (start, goal) next q in
    let (u, last, w, z) = on-got (ended bytes end) _ (start, goal) next t in
    let same : ◌≡◌ {A = List ℕ × List ℕ} (s, g) (start, goal) = got-value z in
    subst (λ (labels : List ℕ × List ℕ). (length labels.0 ≡ n) × (length labels.1 ≡ n)) same
    (bay-length n s ((values-said bytes (bay_sizes n)).gives at s middle p).known.0, bay-length n g ((values-said bytes (bay_sizes n)).gives middle g end r).known.0)

-- ---- the sides

module _ (bytes : List ℕ) where
  -- A side that stands at a place.
  abbrev pub side_at : ℕ → Read ℕ
  side_at place = side bytes place

  side-limit : (place n next : ℕ) → side_at place ≡ got n next → (least_side ≤ n) × (n ≤ most_side)
  side-limit place n next e = let known = ((item-said bytes least_side (suc most_side) Limit).gives place n next e).known in (known.0, omega (arith, known.1))

  pub rows-fault : (reason : Reason) (place : ℕ) → side_at 0 ≡ fault reason place → fault reason place ≡ sides_of bytes 0
  unfolding sides_of limited
  rows-fault reason place e = rw e refl

  module _ (rows next : ℕ) (e : side_at 0 ≡ got rows next) where
    pub columns-fault : (reason : Reason) (place : ℕ) → side_at next ≡ fault reason place → fault reason place ≡ sides_of bytes 0
    unfolding sides_of limited
    columns-fault reason place q = rw (e, q) refl

    module _ (columns after : ℕ) (q : side_at next ≡ got columns after) where
      pub slots-product : rows * columns ≤ most_side * most_side
      slots-product = mul-le-mul {m₂ = most_side} (side-limit 0 rows next e).1 (side-limit next columns after q).1

      -- A limit over both sides is placed at the columns.
      columns-at : numbers_on 1 bytes 0 ≡ next
      unfolding numbers_on
      columns-at = rw (item-read (inside least_side (suc most_side)) Limit bytes 0 rows next e)

      pub few-slots : rows * columns < least_slots → fault Limit next ≡ sides_of bytes 0
      unfolding sides_of limited
      few-slots h = rw (e, q, lt-leb least_slots (rows * columns) h, columns-at) refl

      pub many-slots : least_slots ≤ rows * columns → most_slots < rows * columns → fault Limit next ≡ sides_of bytes 0
      unfolding sides_of limited
      many-slots h k = rw (e, q, le-leb least_slots (rows * columns) h, le-ltb (rows * columns) (suc most_slots) k, columns-at) refl

      pub sides-read : least_slots ≤ rows * columns → rows * columns ≤ most_slots → got (rows, columns) after ≡ sides_of bytes 0
      unfolding sides_of limited
      sides-read h k = rw (e, q, le-leb least_slots (rows * columns) h, lt-ltb (rows * columns) (suc most_slots) (omega arith)) refl

  -- A fault of the sides is the file's.
  pub sides-unread : (reason : Reason) (place : ℕ) → fault reason place ≡ sides_of bytes 0 → bay_of bytes 0 ≡ fault reason place
  unfolding bay_of
  sides-unread reason place e = rw (← e) refl

  module _ (rows columns after : ℕ) (e : got (rows, columns) after ≡ sides_of bytes 0) where
    pub sides-few : rows * columns ≤ most_slots
    sides-few = ((sides-said bytes).gives 0 (rows, columns) after (sym e)).known.5

    -- The labels behind the sides make the bay.
    sides-made : bay_of bytes 0 ≡ on_read (labelled (rows * columns) bytes after) (λ labels next. got (bay_with rows columns labels.0 labels.1) next)
    unfolding bay_of labelled
    sides-made =
        let labels = values_of (bay_sizes (rows * columns)) bytes in
        rw (← e) (sym (on-on (labels after) _ _ ∙ ap (on_read (labels after)) (fun_ext (λ start. fun_ext (λ next.
        on-on (labels next) _ _ ∙ ap (on_read (labels next)) (fun_ext (λ goal. fun_ext (λ end. on-on (ended bytes end) _ _))))))))

    -- A fault of the labels is the file's.
    pub labels-unread : (reason : Reason) (place : ℕ) → fault reason place ≡ labelled (rows * columns) bytes after → bay_of bytes 0 ≡ fault reason place
    labels-unread reason place q = sides-made ∙ rw (← q) refl

    -- Labels that were read into the front of arrays.
    pub bay-read : (start goal others further : List ℕ) (end : ℕ) → got (start, goal) end ≡ labelled (rows * columns) bytes after
        → bay_of bytes 0 ≡ got (bay_with rows columns (take (rows * columns) (start ++ others)) (take (rows * columns) (goal ++ further))) end
    bay-read start goal others further end q =
        let long = labels-long (rows * columns) bytes after start goal end (sym q) in
        rw (take_at start others (rows * columns) long.0, take_at goal further (rows * columns) long.1) (sides-made ∙ rw (← q) refl)

-- ---- where the first fault stands

module _ (bytes : List ℕ) (spot : Spot) where
  pub spot-fault : (reason : Reason) (place : ℕ) → bay_of bytes 0 ≡ fault reason place → spot ≡ fault_spot in_task reason place → spot ≡ spot_alone (judged_bay bytes)
  unfolding judged_bay
  spot-fault reason place e q = rw e q

-- What is judged of labels that were read has no place.
lots-nowhere : (b : Bay) (next : ℕ) → spot_alone (judged_lots (slot_count b) b.start b.goal (got b next)) ≡ nowhere
unfolding judged_lots
lots-nowhere b next = by (one_gap b.start) (one_gap b.goal) (equal_lots (slot_count b) b.start b.goal)
  where
    by : (first second equal : Bool) → spot_alone (cond first (cond second (cond equal (got b next) (fault Unequal 0)) (fault Gaps 0)) (fault Gaps 0)) ≡ nowhere
    by true true true = refl
    by true true false = refl
    by true false equal = refl
    by false second equal = refl

pub spot-none : (bytes : List ℕ) (b : Bay) (next : ℕ) → bay_of bytes 0 ≡ got b next → nowhere ≡ spot_alone (judged_bay bytes)
unfolding judged_bay
spot-none bytes b next e = rw e (sym (lots-nowhere b next))

-- ---- the call

pub builds-made : (bytes room : List ℕ) (outcome : Outcome ℕ) → outcome ≡ made_of bay_task (judged (bay_of bytes 0)) room → Builds bytes room outcome
unfolding judged_bay
builds-made bytes room outcome e = subst (Builds bytes room) (sym e) (made_so bay_task room (judged (bay_of bytes 0)))

-- What a reader above the core wants: the table of a relation between slots, and what comes of labels that were read.
use Rattle.std.specs.Prelude.{ℕ, ◌+◌, ◌*◌, ◌/◌, ◌%◌, ◌<◌, ◌≤◌, ◌≡◌, Bool, List, ◌++◌, length, get_or, set, take, drop}
use Rattle.std.proofs.Math.Path.{refl, sym, ap, ap₂}
use Rattle.std.proofs.Common.{◌∙◌, arith, ne_of_lt, mul-le-mul, length-append, length-take-le, take_at, get_or-set_same, get_or-set_other}
use Rattle.std.proofs.Math.Bool.{true, false, cond}
use mir.Val.{bool_byte}
use Rattle.std.proofs.Math.Arith.{digits_lt, digits_div, digits_mod}
use Rattle.std.proofs.Math.Dec.{eqb}
use Rattle.std.proofs.Math.Seq.{ext_get_or}
use Rattle.meaning.specs.Sets.{table}
use Rattle.meaning.specs.Limits.{least_slots, most_slots}
use Rattle.meaning.specs.Task.{Task, State}
use Rattle.meaning.specs.Number.{Read, got, fault}
use Rattle.meaning.specs.File.{task_bytes}
use Rattle.meaning.specs.Answer.{Outcome, delivered, refuses, by_read}
use Rattle.meaning.specs.Bay.{bay_sizes, one_gap, equal_lots, judged_lots, once_in, occurs_in, bay_pairs, task_for}
use Rattle.theory.specs.Truth.{on, off, test, less, same, more, order}
use Rattle.theory.specs.Flat.{length-table, get_d-table}
use Rattle.theory.specs.BayMoves.{bay-length, operators-cong}
use Rattle.sliding.specs.Parts.{Slots, near_in, task_in, built_in}

-- ---- tables

-- A table of a relation between n slots, with so many places.
unfoldable pub near_table : ℕ → ℕ → (ℕ → ℕ → Bool) → List ℕ
near_table places n near = table places (λ place. cond (near (place / n) (place % n)) 1 0)

pub few-places : (n : ℕ) → n ≤ most_slots → n * n ≤ most_slots * most_slots
few-places n h = mul-le-mul {m₂ = most_slots} h h

module _ (n : ℕ) (near : ℕ → ℕ → Bool) where
  -- The places of a list below k are those of the table.
  abbrev pub Filled : List ℕ → ℕ → Type 0
  Filled l k = (i : ℕ) → i < k → get_or l i 0 ≡ cond (near (i / n) (i % n)) 1 0

  -- One more place is filled.
  pub filled_more : (l : List ℕ) (k : ℕ) (mark : Bool) → Filled l k → k < length l → mark ≡ near (k / n) (k % n) → Filled (set l k (bool_byte mark)) (k + 1)
  filled_more l k mark done h e i j = elim (order i k) [
    | less below ↦ get_or-set_other l k i (bool_byte mark) 0 (ne_of_lt below) ∙ done i below
    | same q ↦ rw q (get_or-set_same l k (bool_byte mark) 0 h ∙ byte mark ∙ ap (λ b. cond b 1 0) e)
    | more above ↦ absurd (omega arith)
  ]
    where
      byte : (b : Bool) → bool_byte b ≡ cond b 1 0
      byte true = refl
      byte false = refl

  pub filled-all : (l : List ℕ) (k : ℕ) → Filled l k → length l ≤ k → l ≡ near_table (length l) n near
  unfolding near_table
  filled-all l k done h = ext_get_or 0 l _ (sym (length-table (length l) _)) (λ i j. done i (omega arith) ∙ sym (get_d-table (length l) _ i 0 j))

  table-places : length (near_table (n * n) n near) ≡ n * n
  unfolding near_table
  table-places = length-table (n * n) _

  -- A table that was written into the front of an array.
  module _ (array written : List ℕ) (within : n * n ≤ length array) (all : written ≡ near_table (length (take (n * n) array)) n near) where
    whole : written ≡ near_table (n * n) n near
    whole = all ∙ ap (λ places. near_table places n near) (length-take-le (n * n) array within)

    pub front_long : n * n ≤ length (written ++ drop (n * n) array)
    front_long = rw (length-append written (drop (n * n) array)) (omega (arith, ap length whole, table-places))

    pub front-table : take (n * n) (written ++ drop (n * n) array) ≡ near_table (n * n) n near
    front-table = take_at written (drop (n * n) array) (n * n) (ap length whole ∙ table-places) ∙ whole

  -- With labels of n slots it is what the core is lent.
  pub table-ready : (start goal lent : List ℕ) → least_slots ≤ n → n ≤ most_slots → State (bay_sizes n) start → State (bay_sizes n) goal → lent ≡ near_table (n * n) n near
      → Slots lent start × State (bay_sizes (length start)) goal
  table-ready start goal lent h k first last e = let long = bay-length n start first in
      rw (e, long) (record { least = rw long h; most = rw long k; square = rw long table-places; state = rw long first }, last)

  -- It says of two slots what the relation says.
  near-table : (p q : ℕ) → p < n → q < n → near_in (near_table (n * n) n near) n p q ≡ near p q
  unfolding near_table
  near-table p q h k =
      ap (λ x. eqb x 1) (get_d-table (n * n) _ (p * n + q) 0 (digits_lt h k) ∙ ap₂ (λ a b. cond (near a b) 1 0) (digits_div p k) (digits_mod p k)) ∙ marked (near p q)
    where
      marked : (b : Bool) → eqb (cond b 1 0) 1 ≡ b
      marked true = refl
      marked false = refl

  pub task-table : (start goal : List ℕ) → length start ≡ n → task_in (near_table (n * n) n near) start goal ≡ task_for n near start goal
  unfolding task_for
  task-table start goal e = rw e (ap (λ operators. record { sizes = bay_sizes n; start = start; goal = goal; pairs = bay_pairs n (once_in start); operators = operators })
      (operators-cong n (near_in (near_table (n * n) n near) n) near (occurs_in start) (occurs_in start) near-table (λ t h. refl)))

-- ---- what was read

module _ {A : Type 0} (task : A → Task) where
  -- What comes of what was read and judged.
  abbrev pub made_of : Read A → List ℕ → Outcome ℕ
  made_of (got a next) room = delivered (task_bytes (task a)) room
  made_of (fault reason place) room = refuses reason room

  pub made_so : (room : List ℕ) (read : Read A) → by_read read (λ a. made_of read room ≡ delivered (task_bytes (task a)) room) (λ reason. made_of read room ≡ refuses reason room)
  made_so room (got a next) = refl
  made_so room (fault reason place) = refl

  -- The core judges labels as they are to be judged.
  pub built-made : (near start goal room : List ℕ) (n : ℕ) (a : A) (next : ℕ) → length start ≡ n → task_in near start goal ≡ task a
      → built_in near start goal room ≡ made_of (judged_lots n start goal (got a next)) room
  unfolding built_in judged_lots
  built-made near start goal room n a next e its = rw (its, e) (elim (test (one_gap start)) [
    | on first ↦ elim (test (one_gap goal)) [
      | on last ↦ elim (test (equal_lots n start goal)) [ on lots ↦ rw (first, last, lots) refl | off lots ↦ rw (first, last, lots) refl ]
      | off last ↦ rw (first, last) refl
    ]
    | off first ↦ rw first refl
  ])

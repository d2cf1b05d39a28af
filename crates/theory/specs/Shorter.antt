-- How many bytes lists of features have, in files of either kind. A mended file is never longer than the file that came: a room of the task's length is enough. So it is for the
-- list of what was dropped where an old file came; where a new one came, whose gaps have fewer bytes than their features, a room for the longest list is.
use Rattle.std.specs.Prelude.{ℕ, zero, suc, ◌+◌, ◌*◌, ◌-◌, ◌/◌, ◌<◌, ◌≤◌, ◌≡◌, refl, ◌≢◌, true, List, [], ◌∷◌, ◌++◌, eqb, ltb}
use Rattle.std.proofs.Math.Path.{ap}
use Rattle.std.proofs.Common.{inl, inr, arith, length-append, eqb-true, ltb-true, ltb-false, lt-ltb}
use mathlib.Core.List.Memᴰ.{cases_cons}
use mathlib.Core.List.Memᴰ.{head as here}
use mathlib.Core.List.Memᴰ.{not-nil}
use mathlib.Core.List.Memᴰ.{tail as there}
use Rattle.std.proofs.Math.ListN.{length}
use Rattle.std.proofs.lemmas.Bool.{eqb-false}
use Rattle.meaning.specs.Sets.{listed}
use Rattle.meaning.specs.Limits.{group, most_groups, most_features}
use Rattle.meaning.specs.Task.{Task, Run}
use Rattle.meaning.specs.Feature.{atoms, features}
use Rattle.meaning.specs.Number.{group_bytes, number_bytes, got}
use Rattle.meaning.specs.File.{Kind, plain, gapped, kind_of, task_of, bytes_of, counted, weight_bytes, numbers_for, list_bytes, mark_bytes, task_bytes_as, operator_bytes}
use Rattle.meaning.specs.Answer.{done, Outcome}
use Rattle.meaning.specs.Mend.{Within, Sublist, mended, Mends, Drops}
use Rattle.theory.specs.Truth.{on, off, test}
use Rattle.theory.specs.Search.{listed_in, in-listed}
use Rattle.theory.specs.Run.{run_more, run_in, run-first, run-rest, run_length}
use Rattle.theory.specs.Spent.{Bytes}
use Rattle.theory.specs.NumberBack.{number-bytes-length}
use Rattle.theory.specs.ReadBack.{said_as, numbers-none, numbers_more, numbers-length}
use Rattle.theory.specs.Accepted.{read_known}
use Rattle.theory.specs.Delivered.{delivered-done}

-- A larger number has no fewer bytes.
groups-more : (k a b : ℕ) → a ≤ b → length (group_bytes k a) ≤ length (group_bytes k b)
unfolding group_bytes
groups-more zero a b h = omega arith
groups-more (suc k) a b h = elim (test (ltb b group)) [
  | on e ↦ let l : a < group = omega (arith, ltb-true b group e) in rw (e, lt-ltb a group l) (omega arith)
  | off e ↦ elim (test (ltb a group)) [
    | on q ↦ rw (e, q) (omega arith)
    | off q ↦ rw (e, q) (omega (arith, groups-more k (a / group) (b / group) (omega arith)))
  ]
]

groups-few : (k : ℕ) → (length (group_bytes k 0) ≤ 1) × (length (group_bytes k 1) ≤ 1)
unfolding group_bytes
groups-few zero = (omega arith, omega arith)
groups-few (suc k) = (omega arith, omega arith)

-- A gap over another has no more bytes than the two.
groups-sum : (k a b : ℕ) → length (group_bytes k (a + b + 1)) ≤ length (group_bytes k a) + length (group_bytes k b)
unfolding group_bytes
groups-sum zero a b = omega arith
groups-sum (suc k) a b = elim (test (ltb (a + b + 1) group)) [
  | on e ↦ let l : a + b + 1 < group = ltb-true (a + b + 1) group e in rw (e, lt-ltb a group (omega arith), lt-ltb b group (omega arith)) (omega arith)
  | off e ↦ elim (test (ltb a group)) [
    | on p ↦ elim (test (ltb b group)) [
      | on q ↦ let one : (a + b + 1) / group ≤ 1 = omega (arith, ltb-true a group p, ltb-true b group q) in
          rw (e, p, q) (omega (arith, groups-more k ((a + b + 1) / group) 1 one, (groups-few k).1))
      | off q ↦ rw (e, p, q) (omega (arith, groups-more k ((a + b + 1) / group) (0 + b / group + 1) (omega (arith, ltb-true a group p)), groups-sum k 0 (b / group), (groups-few k).0))
    ]
    | off p ↦ elim (test (ltb b group)) [
      | on q ↦ rw (e, p, q) (omega (arith, groups-more k ((a + b + 1) / group) (a / group + 0 + 1) (omega (arith, ltb-true b group q)), groups-sum k (a / group) 0, (groups-few k).0))
      | off q ↦ rw (e, p, q) (omega (arith, groups-more k ((a + b + 1) / group) (a / group + b / group + 1) (omega arith), groups-sum k (a / group) (b / group)))
    ]
  ]
]

-- A number that was left out between has no fewer bytes than it saves.
said-short : (kind : Kind) (least x y : ℕ) → least ≤ y → y < x
    → length (number_bytes (said_as kind least x)) ≤ length (number_bytes (said_as kind least y)) + length (number_bytes (said_as kind (suc y) x))
unfolding number_bytes
said-short plain least x y h l = omega arith
said-short gapped least x y h l =
    let e : x - least ≡ (y - least) + (x - suc y) + 1 = omega arith in
    rw e (groups-sum most_groups (y - least) (x - suc y))

-- The bytes of several features, where the first has to be `least` or more.
abbrev spelled : Kind → ℕ → List ℕ → ℕ
spelled kind least fs = length (bytes_of number_bytes (numbers_for kind least fs))

spelled-more : (kind : Kind) (least f : ℕ) (fs : List ℕ) → spelled kind least (f ∷ fs) ≡ length (number_bytes (said_as kind least f)) + spelled kind (suc f) fs
unfolding bytes_of
spelled-more kind least f fs = rw (numbers_more kind least f fs) (length-append (number_bytes (said_as kind least f)) (bytes_of number_bytes (numbers_for kind (suc f) fs)))

spelled_none : (kind : Kind) (least : ℕ) → spelled kind least [] ≡ 0
unfolding bytes_of
spelled_none kind least = rw (numbers-none kind least)

-- What is within an increasing list has no more numbers, and their bytes are no more.
sublist-short : (kind : Kind) (least lo hi lo' hi' : ℕ) (a b : List ℕ) → least ≤ lo' → Run lo a hi → Run lo' b hi' → Within (listed a) (listed b)
    → (length a ≤ length b) × (spelled kind least a ≤ spelled kind least b)
sublist-short kind least lo hi lo' hi' [] b m r s h = (omega arith, omega (arith, spelled_none kind least))
sublist-short kind least lo hi lo' hi' (x ∷ a) [] m r s h = absurd (not-nil (listed_in [] x (h x (in-listed (x ∷ a) x (here refl)))))
sublist-short kind least lo hi lo' hi' (x ∷ a) (y ∷ b) m r s h = elim (test (eqb x y)) [
  | on e ↦ let same : x ≡ y = eqb-true x y e in
      let (few, short) = sublist-short kind (suc x) (suc x) hi (suc y) hi' a b (omega (arith, same)) (run-rest lo hi x a r) (run-rest lo' hi' y b s) (λ f q. further f (there-in f q) (past f q same)) in
      (omega (arith, few), omega (arith, short, spelled-more kind least x a, spelled-more kind least y b, ap (λ n. length (number_bytes (said_as kind least n)) + spelled kind (suc n) b) same))
  | off e ↦ let apart = eqb-false x y e in
      let (few, short) = sublist-short kind (suc y) lo hi (suc y) hi' (x ∷ a) b (omega arith) r (run-rest lo' hi' y b s) (λ f q. further f (h f q) (later f q apart)) in (
        omega (arith, few),
        omega (
          arith,
          short,
          spelled-more kind least y b,
          spelled-more kind least x a,
          spelled-more kind (suc y) x a,
          said-short kind least x y (omega (arith, run-first lo' hi' y b s)) (above apart),
        ),
      )
]
  where
    there-in : (f : ℕ) → listed a f ≡ true → listed (y ∷ b) f ≡ true
    there-in f q = h f (in-listed (x ∷ a) f (there (listed_in a f q)))

    further : (f : ℕ) → listed (y ∷ b) f ≡ true → f ≢ y → listed b f ≡ true
    further f q d = elim (cases_cons (listed_in (y ∷ b) f q)) [ inl z ↦ absurd (d z) | inr m ↦ in-listed b f m ]

    past : (f : ℕ) → listed a f ≡ true → x ≡ y → f ≢ y
    past f q e z = omega (arith, run_in (suc x) hi a f (run-rest lo hi x a r) (listed_in a f q), e, z)

    above : x ≢ y → y < x
    above d = (run_in (suc y) hi' b x (run-rest lo' hi' y b s) (listed_in b x (further x (h x (in-listed (x ∷ a) x (here refl))) d))).0

    later : (f : ℕ) → listed (x ∷ a) f ≡ true → x ≢ y → f ≢ y
    later f q d z =
        omega (arith, above d, run_in x hi (x ∷ a) f (run_more x hi x a (omega arith) (run-rest lo hi x a r)) (listed_in (x ∷ a) f q), z)

-- With their count.
list_length : (kind : Kind) (fs : List ℕ) → length (list_bytes kind fs) ≡ length (number_bytes (length fs)) + spelled kind 0 fs
unfolding list_bytes weight_bytes counted
list_length kind fs = rw (numbers-length kind 0 fs) (length-append (number_bytes (length fs)) (bytes_of number_bytes (numbers_for kind 0 fs)))

list-short : (kind : Kind) (lo hi lo' hi' : ℕ) (a b : List ℕ) → Run lo a hi → Run lo' b hi' → Within (listed a) (listed b) → length (list_bytes kind a) ≤ length (list_bytes kind b)
unfolding number_bytes
list-short kind lo hi lo' hi' a b r s h = let (few, short) = sublist-short kind 0 lo hi lo' hi' a b (omega arith) r s h in
    omega (arith, short, groups-more most_groups (length a) (length b) few, list_length kind a, list_length kind b)

-- A small number has one byte, a larger one two; and none has more bytes than numbers up to it.
groups-one : (k n : ℕ) → n < group → length (group_bytes k n) ≤ 1
unfolding group_bytes
groups-one zero n h = omega arith
groups-one (suc k) n h = rw (lt-ltb n group h) (omega arith)

groups-two : (k n : ℕ) → n < group * group → length (group_bytes k n) ≤ 2
unfolding group_bytes
groups-two zero n h = omega arith
groups-two (suc k) n h = elim (test (ltb n group)) [ on e ↦ rw e (omega arith) | off e ↦ rw e (omega (arith, groups-one k (n / group) (omega arith))) ]

groups-up-to : (k n : ℕ) → length (group_bytes k n) ≤ suc n
unfolding group_bytes
groups-up-to zero n = omega arith
groups-up-to (suc k) n = elim (test (ltb n group)) [ on e ↦ rw e (omega arith) | off e ↦ rw e (omega (arith, ltb-false n group e, groups-up-to k (n / group))) ]

-- The bytes that all numbers below a bound have beside one for each: one from a group on, and another from a group of groups on.
abbrev pub further : ℕ → ℕ
further bound = (bound - group) + (bound - group * group)

further-one : (low f : ℕ) → low ≤ f → length (number_bytes f) + further low ≤ suc (further (suc f))
unfolding number_bytes
further-one low f h = elim (test (ltb f group)) [
  | on e ↦ let l = ltb-true f group e in omega (arith, groups-one most_groups f l)
  | off e ↦ let m = ltb-false f group e in elim (test (ltb f (group * group))) [
    | on q ↦ let l = ltb-true f (group * group) q in omega (arith, groups-two most_groups f l)
    | off q ↦ let n = ltb-false f (group * group) q in omega (arith, (number-bytes-length f).1)
  ]
]

-- So many bytes a list of the old kind has at most,
spelled-further : (least low high : ℕ) (fs : List ℕ) → Run low fs high → spelled plain least fs + further low ≤ length fs + further high
unfolding Run
spelled-further least low high [] r = omega (arith, spelled_none plain least)
spelled-further least low high (f ∷ fs) r = omega (arith, spelled-more plain least f fs, spelled-further (suc f) (suc f) high fs r.1, further-one low f r.0)

-- and so many one of the new kind: a gap is as many numbers that are not listed, and has no more bytes than they and its feature are.
spelled-gaps : (least low high : ℕ) (fs : List ℕ) → least ≤ low → Run low fs high → spelled gapped least fs + least ≤ high
unfolding Run number_bytes
spelled-gaps least low high [] h r = omega (arith, spelled_none gapped least)
spelled-gaps least low high (f ∷ fs) h r = omega (arith, spelled-more gapped least f fs, spelled-gaps (suc f) (suc f) high fs (omega arith) r.1, groups-up-to most_groups (f - least), r.0)

-- Of either kind a list has a byte for each feature at least.
spelled_count : (kind : Kind) (least : ℕ) (fs : List ℕ) → length fs ≤ spelled kind least fs
spelled_count kind least [] = omega arith
spelled_count kind least (f ∷ fs) = omega (arith, spelled-more kind least f fs, spelled_count kind (suc f) fs, (number-bytes-length (said_as kind least f)).0)

-- A gap is no larger than its feature.
spelled-least : (kind : Kind) (least : ℕ) (fs : List ℕ) → spelled kind least fs ≤ spelled plain least fs
unfolding number_bytes
spelled-least kind least [] = omega (arith, spelled_none kind least)
spelled-least kind least (f ∷ fs) = omega (
  arith,
  spelled-more plain least f fs,
  spelled-more kind least f fs,
  spelled-least kind (suc f) fs,
  groups-more most_groups (said_as kind least f) f (said-least kind),
)
  where
    said-least : (kind : Kind) → said_as kind least f ≤ f
    said-least plain = omega arith
    said-least gapped = omega arith

-- With their count, the pairs of a task or a weight list: the old kind has no fewer bytes than either,
pub list-least : (kind : Kind) (fs : List ℕ) → length (list_bytes kind fs) ≤ length (list_bytes plain fs)
list-least kind fs = omega (arith, list_length plain fs, list_length kind fs, spelled-least kind 0 fs)

-- and so many more at most.
pub list-further : (kind : Kind) (low high : ℕ) (fs : List ℕ) → high ≤ most_features → Run low fs high → length (list_bytes plain fs) ≤ length (list_bytes kind fs) + further most_features
list-further kind low high fs few r = omega (arith, list_length plain fs, list_length kind fs, spelled-further 0 low high fs r, spelled_count kind 0 fs)

-- The longest list of each kind.
abbrev pub longest : Kind → ℕ
longest plain = most_groups + (most_features + further most_features)
longest gapped = most_groups + most_features

pub list-longest : (kind : Kind) (low high : ℕ) (fs : List ℕ) → high ≤ most_features → Run low fs high → length (list_bytes kind fs) ≤ longest kind
list-longest plain low high fs few r = omega (arith, list_length plain fs, (number-bytes-length (length fs)).1, spelled-further 0 low high fs r, run_length low high fs r)
list-longest gapped low high fs few r = omega (arith, list_length gapped fs, (number-bytes-length (length fs)).1, spelled-gaps 0 low high fs (omega arith) r)

-- The bytes of a task file around its mark and its list of pairs.
unfoldable pub around : Task → ℕ
around T =
    length (counted number_bytes T.sizes) + length (bytes_of number_bytes T.start) + length (bytes_of number_bytes T.goal) + length (counted operator_bytes T.operators)

pub task-length : (kind : Kind) (T : Task) → length (task_bytes_as kind T) ≡ length (mark_bytes kind) + around T + length (list_bytes kind T.pairs)
unfolding task_bytes_as around
task-length kind T =
    let operators = list_bytes kind T.pairs ++ counted operator_bytes T.operators in
    let goal = bytes_of number_bytes T.goal ++ operators in
    let start = bytes_of number_bytes T.start ++ goal in
    omega (
      arith,
      length-append (mark_bytes kind) (counted number_bytes T.sizes ++ start),
      length-append (counted number_bytes T.sizes) start,
      length-append (bytes_of number_bytes T.start) goal,
      length-append (bytes_of number_bytes T.goal) operators,
      length-append (list_bytes kind T.pairs) (counted operator_bytes T.operators),
    )

module _ (task : List ℕ) (small : Bytes task) (T : Task) (next : ℕ) (read : task_of task 0 ≡ got T next) where
  increasing : Run (atoms T.sizes) T.pairs (features T.sizes)
  increasing = (read_known task T next read).1.pairs

  abbrev kind : Kind
  kind = kind_of task 0

  -- The file is that of the task which was read from it.
  file : task ≡ task_bytes_as kind T
  file = (read_known task T next read).2 small

  -- The bytes around the list of pairs are as many for every list.
  list-around : (pairs : List ℕ) → length (task_bytes_as kind (mended T pairs)) ≡ length (mark_bytes kind) + around T + length (list_bytes kind pairs)
  unfolding around
  list-around pairs = task-length kind (mended T pairs)

  -- A sublist is no longer than the list, with what is around it and without.
  short : (pairs : List ℕ) → Sublist T pairs → length (mark_bytes kind) + around T + length (list_bytes kind pairs) ≤ length task
  short pairs sub = omega (arith, ap length file, list-around T.pairs, list-short kind _ _ _ _ pairs T.pairs sub.increasing increasing sub.within)

  -- A room of the task's length is not too small for `mend`,
  pub mend-fits : (room : List ℕ) → length task ≤ length room → (outcome : Outcome ℕ) → Mends task room outcome → (k : ℕ) × (outcome.answer ≡ done k)
  mend-fits room fits outcome mends = let (kept, largest, e) = rw read at mends in
      delivered-done (task_bytes_as kind (mended T kept)) room (omega (arith, fits, list-around kept, short kept largest.sublist)) outcome e

  -- The list of what was dropped is written as in a file of the old kind.
  dropped-by : (room : List ℕ) → ((pairs : List ℕ) → Sublist T pairs → length (weight_bytes pairs) ≤ length room) → (outcome : Outcome ℕ) → Drops task room outcome
      → (k : ℕ) × (outcome.answer ≡ done k)
  dropped-by room fits outcome drops = let (kept, dropped, largest, rest, e) = rw read at drops in
      delivered-done (weight_bytes dropped) room (fits dropped rest.sublist) outcome e

  -- nor, where it is a file of the old kind, for `dropped`;
  pub dropped-fits : kind ≡ plain → (room : List ℕ) → length task ≤ length room → (outcome : Outcome ℕ) → Drops task room outcome → (k : ℕ) × (outcome.answer ≡ done k)
  unfolding list_bytes
  dropped-fits old room fits = dropped-by room (λ pairs sub. omega (arith, fits, short pairs sub, ap (λ k. length (list_bytes k pairs)) old))

  -- and of either kind, if the room has the bytes of the longest such list.
  pub dropped-fits-either : (room : List ℕ) → longest plain ≤ length room → (outcome : Outcome ℕ) → Drops task room outcome → (k : ℕ) × (outcome.answer ≡ done k)
  unfolding list_bytes
  dropped-fits-either room fits = dropped-by room (λ pairs sub. omega (arith, fits, list-longest plain _ _ pairs (read_known task T next read).1.limits.total sub.increasing))

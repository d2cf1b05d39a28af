-- The bytes of a task that can be written are read back as that task, and the bytes of a weight list as that list.
use Rattle.std.specs.Prelude.{ℕ, suc, ◌+◌, ◌-◌, ◌<◌, ◌≤◌, ◌≡◌, refl, Bool, true, get_or, replicate, leb, ltb}
use Rattle.std.proofs.Common.{sym, ap, ◌∙◌, arith, zero-add, length-append, lt-ltb, le-leb, ne_eqb}
use mathlib.Core.List.Memᴰ.{head as here}
use mathlib.Core.List.Memᴰ.{tail as there}
use mathlib.Core.List.{List, [], ◌∷◌, ◌++◌, append_assoc, append-nil, Memᴰ as In}
use Rattle.std.proofs.Math.ListN.{length}
use Rattle.std.proofs.lemmas.List.{length-replicate, get_or-replicate}
use Rattle.meaning.specs.Limits.{least_variables, most_variables, least_size, most_size, most_features, number_end}
use Rattle.meaning.specs.Sets.{listed}
use Rattle.meaning.specs.Task.{Entry, Operator, Task, State, Entries, IsOperator, Run, size}
use Rattle.meaning.specs.Feature.{atoms, features}
use Rattle.meaning.specs.Pair.{closed}
use Rattle.meaning.specs.Number.{Reason, Limit, Range, got, number_bytes}
use Rattle.meaning.specs.File.{Parser, give, then, inside, item, judge, limited, rising, ended, items_of, sizes_of, size_list, header, values_of, Kind, plain, gapped, kind_of, mark_of, feature_of, features_of, feature_list, entries_of}
use Rattle.meaning.specs.File.{operator_of, operators_of, body_of, parts_of, task_as, task_of, judged_as, judged_task, judged_weights_as, judged_weights, InLimits, Taken, Writable}
use Rattle.meaning.specs.File.{bytes_of, counted, entry_bytes, operator_bytes, weight_bytes, gaps_from, numbers_for, list_bytes, mark_bytes, weight_bytes_as, task_bytes_as, task_bytes}
use Rattle.theory.specs.Search.{and_both, all-each}
use Rattle.theory.specs.Run.{run-first, run-rest, run_length}
use Rattle.theory.specs.Reading.{Reads, reads-give, reads_then, reads-map}
use Rattle.theory.specs.NumberBack.{number-back}

-- ---- one number, and tests

pub item_back : (test : ℕ → Bool) (reason : Reason) (n : ℕ) → test n ≡ true → n < number_end → (after : List ℕ) → Reads (item test reason) n (number_bytes n) after
unfolding item
item_back test reason n e h after = record { reads = λ before. rw ((number-back n h after).reads before, e) }

inside-between : (low high n : ℕ) → low ≤ n → n < high → inside low high n ≡ true
inside-between low high n h l = and_both (leb low n) (ltb n high) (le-leb low n h) (lt-ltb n high l)

pub between-back : (low high : ℕ) (reason : Reason) (n : ℕ) → low ≤ n → n < high → n < number_end → (after : List ℕ) → Reads (item (inside low high) reason) n (number_bytes n) after
between-back low high reason n h l m after = item_back (inside low high) reason n (inside-between low high n h l) m after

pub rising-back : (low high least n : ℕ) → low ≤ n → least ≤ n → n < high → n < number_end → (after : List ℕ) → Reads (rising low high least) n (number_bytes n) after
unfolding rising
rising-back low high least n h k l m after = record { reads = λ before. rw ((between-back low high Range n h l m after).reads before, le-leb least n k) }

-- A limit that is kept reads nothing.
pub limited-back : {A : Type 0} {first : Parser A} (test : A → Bool) (behind : A → ℕ) {a : A} {l after : List ℕ} → test a ≡ true → Reads first a l after
    → Reads (limited first test behind) a l after
unfolding limited
limited-back test behind e h = record { reads = λ before. rw (h.reads before, e) }

-- Where nothing follows, the end is found.
pub ended-back : {A B : Type 0} {first : Parser A} (f : A → B) {a : A} {l : List ℕ} → Reads first a l []
    → Reads (then first (λ c. then ended (λ _. give (f c)))) (f a) l []
unfolding judge ended
ended-back f {l = l} h = record {
  reads = λ before.
      let e : length (before ++ (l ++ [])) ≤ length before + length l = omega (arith, length-append before (l ++ []), length-append l []) in
      rw (h.reads before, le-leb (length (before ++ (l ++ []))) (length before + length l) e);
}

-- ---- sizes and values

-- Bounds of which every number below is a number of a file.
abbrev pub Sayable : List ℕ → Type 0
Sayable bounds = (i : ℕ) → i < length bounds → get_or bounds i 0 ≤ number_end

pub limits-sayable : (sizes : List ℕ) → InLimits sizes → Sayable sizes
limits-sayable sizes limits i l = omega (arith, limits.each i l)

pub items_back : (low : ℕ) (reason : Reason) (bounds ns : List ℕ) → Sayable bounds → length ns ≡ length bounds
    → ((i : ℕ) → i < length bounds → (low ≤ get_or ns i 0) × (get_or ns i 0 < get_or bounds i 0)) → (after : List ℕ) → Reads (items_of low reason bounds) ns (bytes_of number_bytes ns) after
unfolding items_of bytes_of
items_back low reason [] [] m e h after = reads-give
items_back low reason [] (n ∷ ns) m e h after = absurd (omega arith)
items_back low reason (bound ∷ bounds) [] m e h after = absurd (omega arith)
items_back low reason (bound ∷ bounds) (n ∷ ns) m e h after =
    let (first, last) = h 0 (omega arith) in
    reads_then _ (between-back low bound reason n first last (omega (arith, m 0 (omega arith))) (bytes_of number_bytes ns ++ after))
    (reads-map (◌∷◌ n) (items_back low reason bounds ns (λ i l. m (suc i) (omega arith)) (omega arith) (λ i l. h (suc i) (omega arith)) after))

pub sizes-back : (least most : ℕ) (sizes : List ℕ) → most < number_end → ((i : ℕ) → i < length sizes → (least ≤ size sizes i) × (size sizes i ≤ most)) → (after : List ℕ)
    → Reads (sizes_of least most (length sizes)) sizes (bytes_of number_bytes sizes) after
sizes-back least most sizes below h after =
    let long = length-replicate (length sizes) (suc most) in
    items_back least Limit (replicate (length sizes) (suc most)) sizes
    (λ i l. omega (arith, get_or-replicate (length sizes) i (suc most) 0 (omega arith)))
    (sym long)
    (λ i l. let k = h i (omega arith) in (k.0, omega (arith, k.1, get_or-replicate (length sizes) i (suc most) 0 (omega arith))))
    after

pub size-list-back : (least most : ℕ) (sizes : List ℕ) → most < number_end → least_variables ≤ length sizes → length sizes ≤ most_variables
    → ((i : ℕ) → i < length sizes → (least ≤ size sizes i) × (size sizes i ≤ most)) → (after : List ℕ) → Reads (size_list least most) sizes (counted number_bytes sizes) after
unfolding size_list counted
size-list-back least most sizes below low high h after =
    reads_then _ (between-back least_variables (suc most_variables) Limit (length sizes) low (omega arith) (omega arith) (bytes_of number_bytes sizes ++ after))
    (sizes-back least most sizes below h after)

pub header-back : (sizes : List ℕ) → InLimits sizes → Taken sizes → (after : List ℕ) → Reads (header least_size most_size) sizes (counted number_bytes sizes) after
unfolding header
header-back sizes limits taken after =
    let (low, high) = limits.variables in
    limited-back (λ ds. leb (features ds) most_features) length (le-leb (features sizes) most_features limits.total)
    (size-list-back least_size most_size sizes (omega arith) low high (λ i l. (taken i l, (limits.each i l).1)) after)

pub values-back : (sizes state : List ℕ) → Sayable sizes → State sizes state → (after : List ℕ) → Reads (values_of sizes) state (bytes_of number_bytes state) after
values-back sizes state m good after = items_back 0 Range sizes state m good.full (λ i l. (omega arith, good.values i l)) after

-- ---- features

-- The number that stands for a feature that has to be `least` or more.
abbrev pub said_as : Kind → ℕ → ℕ → ℕ
said_as plain least f = f
said_as gapped least f = f - least

pub numbers_more : (kind : Kind) (least f : ℕ) (fs : List ℕ) → numbers_for kind least (f ∷ fs) ≡ said_as kind least f ∷ numbers_for kind (suc f) fs
unfolding gaps_from
numbers_more plain least f fs = refl
numbers_more gapped least f fs = refl

pub numbers-none : (kind : Kind) (least : ℕ) → numbers_for kind least [] ≡ []
unfolding gaps_from
numbers-none plain least = refl
numbers-none gapped least = refl

pub numbers-length : (kind : Kind) (least : ℕ) (fs : List ℕ) → length (numbers_for kind least fs) ≡ length fs
numbers-length kind least [] = rw (numbers-none kind least)
numbers-length kind least (f ∷ fs) = rw (numbers_more kind least f fs) (ap suc (numbers-length kind (suc f) fs))

feature-back : (kind : Kind) (low high least f : ℕ) → low ≤ f → least ≤ f → f < high → f < number_end → (after : List ℕ)
    → Reads (feature_of kind low high least) f (number_bytes (said_as kind least f)) after
unfolding feature_of
feature-back plain low high least f h k l m after = rising-back low high least f h k l m after
feature-back gapped low high least f h k l m after = record {
  reads = λ before. let e : least + (f - least) ≡ f = omega arith in rw ((number-back (f - least) (omega arith) after).reads before, e, inside-between low high f h l);
}

-- From the lowest and the least that is allowed to the first that is there.
features-back : (kind : Kind) (from low high least : ℕ) (fs : List ℕ) → low ≤ from → least ≤ from → high ≤ number_end → Run from fs high → (after : List ℕ)
    → Reads (features_of kind (length fs) low high least) fs (bytes_of number_bytes (numbers_for kind least fs)) after
unfolding features_of bytes_of
features-back kind from low high least [] h k m r after = rw (numbers-none kind least) reads-give
features-back kind from low high least (f ∷ fs) h k m r after =
    let first : from ≤ f = run-first from high f fs r in
    let rest : suc f + length fs ≤ high = run_length (suc f) high fs (run-rest from high f fs r) in
    rw (numbers_more kind least f fs) (
    reads_then _ (feature-back kind low high least f (omega arith) (omega arith) (omega arith) (omega arith) (bytes_of number_bytes (numbers_for kind (suc f) fs) ++ after))
    (reads-map (◌∷◌ f) (features-back kind (suc f) low high (suc f) fs (omega arith) (omega arith) m (run-rest from high f fs r) after)))

pub feature-list-back : (kind : Kind) (low high : ℕ) (fs : List ℕ) → high < number_end → Run low fs high → (after : List ℕ) → Reads (feature_list kind low high) fs (list_bytes kind fs) after
unfolding feature_list list_bytes weight_bytes counted
feature-list-back kind low high fs m r after = rw (numbers-length kind 0 fs) (
    reads_then _ (number-back (length fs) (omega (arith, run_length low high fs r)) (bytes_of number_bytes (numbers_for kind 0 fs) ++ after))
    (features-back kind low low high 0 fs (omega arith) (omega arith) (omega arith) r after))

-- ---- operators

pub entries-length : (sizes : List ℕ) (low : ℕ) (o : Operator) → low ≤ length sizes → Entries sizes low o → low + length o ≤ length sizes
entries-length sizes low [] l h = omega arith
entries-length sizes low (e ∷ es) l h = omega (arith, entries-length sizes (suc e.variable) es h.1 h.4)

-- The bytes of an entry and what stands behind them, one number after another.
pub entry-apart : (e : Entry) (l : List ℕ) → entry_bytes e ++ l ≡ number_bytes e.variable ++ (number_bytes e.before ++ (number_bytes e.after ++ l))
unfolding entry_bytes
entry-apart e l = append_assoc (number_bytes e.variable) (number_bytes e.before ++ number_bytes e.after) l
    ∙ ap (◌++◌ (number_bytes e.variable)) (append_assoc (number_bytes e.before) (number_bytes e.after) l)

module _ (sizes : List ℕ) (few : length sizes < number_end) (small : Sayable sizes) where
  pub entries-back : (least : ℕ) (o : Operator) → Entries sizes least o → (after : List ℕ) → Reads (entries_of sizes (length o) least) o (bytes_of entry_bytes o) after
  unfolding entries_of bytes_of
  entries-back least [] h after = reads-give
  entries-back least (e ∷ es) h after =
      let (l, i, x, y, rest) = h in
      let d : size sizes e.variable ≤ number_end = small e.variable i in
      rw (entry-apart e (bytes_of entry_bytes es)) (
      reads_then _ (rising-back 0 (length sizes) least e.variable (omega arith) l i (omega arith) _)
      (reads_then _ (between-back 0 (size sizes e.variable) Range e.before (omega arith) x (omega arith) _)
      (reads_then _ (between-back 0 (size sizes e.variable) Range e.after (omega arith) y (omega arith) _)
      (reads-map (◌∷◌ e) (entries-back (suc e.variable) es rest after)))))

  pub operator-back : (o : Operator) → IsOperator sizes o → (after : List ℕ) → Reads (operator_of sizes) o (operator_bytes o) after
  unfolding operator_of operator_bytes counted
  operator-back o good after =
      let l : 0 + length o ≤ length sizes = entries-length sizes 0 o (omega arith) good.entries in
      reads_then _ (between-back 1 (suc (length sizes)) Range (length o) good.filled (omega arith) (omega arith) _) (entries-back 0 o good.entries after)

  pub operators-back : (os : List Operator) → ((o : Operator) → In o os → IsOperator sizes o) → (after : List ℕ)
      → Reads (operators_of sizes (length os)) os (bytes_of operator_bytes os) after
  unfolding operators_of bytes_of
  operators-back [] h after = reads-give
  operators-back (o ∷ os) h after =
      reads_then _ (operator-back o (h o (here refl)) _) (reads-map (◌∷◌ o) (operators-back os (λ p m. h p (there m)) after))

-- ---- whole files

mark-back : (kind : Kind) (after : List ℕ) → Reads (mark_of kind) tt (mark_bytes kind) after
unfolding mark_of
mark-back plain after = reads-give
mark-back gapped after = reads-map (λ _. tt) (between-back 0 1 Range 0 (omega arith) (omega arith) (omega arith) after)

task-back : (kind : Kind) (T : Task) → Writable T → Reads (task_as kind) T (task_bytes_as kind T) []
unfolding task_as parts_of body_of task_bytes_as counted
task-back kind T good =
    let fine = good.acceptable in
    let limits = fine.limits in
    let small = limits-sayable T.sizes limits in
    let few : length T.sizes < number_end = omega (arith, limits.variables) in
    reads_then _ (mark-back kind _)
    (reads_then _ (header-back T.sizes limits fine.taken _)
    (reads_then _ (values-back T.sizes T.start small fine.start _)
    (reads_then _ (values-back T.sizes T.goal small fine.goal _)
    (reads_then _ (feature-list-back kind (atoms T.sizes) (features T.sizes) T.pairs (omega (arith, limits.total)) fine.pairs _)
    (reads_then _ (number-back (length T.operators) good.countable _)
    (ended-back (λ os. record { sizes = T.sizes; start = T.start; goal = T.goal; pairs = T.pairs; operators = os }) (operators-back T.sizes few small T.operators fine.operators [])))))))

-- Bytes that hold one thing and nothing else.
pub whole : {A : Type 0} (parser : Parser A) (a : A) (bytes : List ℕ) → Reads parser a bytes [] → parser bytes 0 ≡ got a (length bytes)
whole parser a bytes h = rw (append-nil bytes, zero-add (length bytes)) at (h.reads [])

pub read-back-as : (kind : Kind) (T : Task) → Writable T → judged_as kind (task_bytes_as kind T) ≡ got T (length (task_bytes_as kind T))
unfolding judged_as
read-back-as kind T good =
    let fine = good.acceptable in
    rw (whole (task_as kind) T (task_bytes_as kind T) (task-back kind T good), fine.free, all-each (closed T.sizes (listed T.pairs)) T.operators fine.closed-under)

-- The kind of a file is known by its first number, which is 0 or how many sizes there are.
pub kind-back : (kind : Kind) (T : Task) → Writable T → kind_of (task_bytes_as kind T) 0 ≡ kind
unfolding kind_of task_bytes_as counted
kind-back plain T good =
    let v = length T.sizes in
    let limits = good.acceptable.limits in
    let behind = bytes_of number_bytes T.start ++ (bytes_of number_bytes T.goal ++ (list_bytes plain T.pairs ++ counted operator_bytes T.operators)) in
    rw (
      append_assoc (number_bytes v) (bytes_of number_bytes T.sizes) behind,
      (number-back v (omega (arith, limits.variables)) (bytes_of number_bytes T.sizes ++ behind)).reads [],
      ne_eqb v 0 (omega (arith, limits.variables)),
    )
kind-back gapped T good = rw ((number-back 0 (omega arith) _).reads [])

-- Either kind of file is read back.
pub read-back-either : (kind : Kind) (T : Task) → Writable T → judged_task (task_bytes_as kind T) ≡ got T (length (task_bytes_as kind T))
unfolding judged_task task_of judged_as
read-back-either kind T good = rw (kind-back kind T good) (read-back-as kind T good)

pub read_back : (T : Task) → Writable T → judged_task (task_bytes T) ≡ got T (length (task_bytes T))
read_back = read-back-either plain

pub weights-back-as : (kind : Kind) (n : ℕ) (weights : List ℕ) → n ≤ most_features → Run 0 weights n
    → judged_weights_as kind n (weight_bytes_as kind weights) ≡ got weights (length (weight_bytes_as kind weights))
unfolding judged_weights_as weight_bytes_as
weights-back-as kind n weights h r =
    whole (then (mark_of kind) (λ _. then (feature_list kind 0 n) (λ ws. then ended (λ _. give ws)))) weights (weight_bytes_as kind weights)
    (reads_then _ (mark-back kind _) (ended-back (λ l. l) (feature-list-back kind 0 n weights (omega arith) r [])))

-- A weight file of the old kind.
pub plain-weights : (weights : List ℕ) → weight_bytes_as plain weights ≡ weight_bytes weights
unfolding weight_bytes_as list_bytes
plain-weights weights = refl

pub weights-back : (n : ℕ) (weights : List ℕ) → n ≤ most_features → Run 0 weights n → judged_weights n (weight_bytes weights) ≡ got weights (length (weight_bytes weights))
weights-back n weights h r = rw (← plain-weights weights) (weights-back-as plain n weights h r)

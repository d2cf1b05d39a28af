-- Smaller files, and the way back (document 02, ticket 7): each sentence of the ticket above the theorem that proves it, over what the calls may answer.
use Rattle.std.specs.Prelude.{ℕ, zero, suc, ◌+◌, ◌-◌, ◌<◌, ◌≤◌, ◌≢◌, ◌↔◌, ◌⊎◌, Bool, not, cond, List, [], ◌∷◌, ◌++◌, eqb, leb, ltb, length, get_or, take, drop, replicate}
use Rattle.std.proofs.Math.Path.{◌≡◌, refl}
use Rattle.std.proofs.Common.{ap, sym, ◌∙◌, inl, inr, arith, length-append}
use Rattle.std.proofs.Math.Logic.Iff
use borrow.Author.Tests.{eqb-true, eqb-false, eq-eqb, ltb-true, le-leb, le-ltb}
use Rattle.meaning.specs.Sets.{table, listed}
use Rattle.meaning.specs.Limits.{most_variables, most_features, group, most_groups, number_end}
use Rattle.meaning.specs.Task.{Task, Run, value, size}
use Rattle.meaning.specs.Feature.{sum_of, atoms, features}
use Rattle.meaning.specs.Weight.{Separates, Unsolvable}
use Rattle.meaning.specs.Number.{Reason, Limit, Range, Unordered, refusal, Read, got, fault, groups, number, group_bytes, number_bytes}
use Rattle.meaning.specs.File.{Parser, inside, item, items_of, limited, size_list, header, Kind, plain, gapped, other, kind_by, kind_of, mark_of, feature_of, features_of, feature_list, ended, parts_of, task_as, task_of, judged_as, judged_task, judged_weights_as, judged_weights}
use Rattle.meaning.specs.File.{Acceptable, bytes_of, counted, operator_bytes, weight_bytes, list_bytes, mark_bytes, weight_bytes_as, task_bytes_as, task_bytes}
use Rattle.meaning.specs.Workspace.{has}
use Rattle.meaning.specs.Answer.{Answer, done, refused, Outcome, writes, Verdict, accepted, ChecksAs, Checks, ChecksNew, Opens, separated, Finds, fine}
use Rattle.meaning.specs.Partial.{left_out, judged_partial, marks_in, named_in, partial_bytes, ChecksPartial, ChecksPartialNew, silenced, marks_judged, Silences}
use Rattle.meaning.specs.Convert.{Converts, ConvertsToNew, ConvertsToOld, ConvertsWeights, ConvertsWeightsToNew, ConvertsWeightsToOld}
use Rattle.meaning.specs.Before.{as_before, number_by, item_by, limited_by, size_list_by, header_by, task_by, judged_task_by}
use Rattle.theory.specs.Truth.{on, off, test}
use Rattle.theory.specs.Search.{and_right}
use Rattle.theory.specs.Flat.{length-table, get_d-table}
use Rattle.theory.specs.Run.{members, run-members}
use Rattle.theory.specs.Spent.{Bytes}
use Rattle.theory.specs.Reading.{not-got, got-value, on-got, item-read, by-got, test-passed, test-failed}
use Rattle.theory.specs.AsRead.{FaultsAmong, got-among, on-among, tested-among, number-among, item-among, ended-among}
use Rattle.theory.specs.ReadBack.{read-back-as, weights-back-as, weights-back}
use Rattle.theory.specs.Accepted as Files
use Rattle.theory.specs.Delivered.{not-refused, delivered-written, delivered-done, builds-leave}
use Rattle.theory.specs.Determined.{converts-weights-only}
use Rattle.theory.specs.Refusals.{Faulty, RefusesExactly, refuses-exactly, check_judged, build_judged, convert_weights_judged, checks-exactly, builds-exactly, converts-weights-refused}
use Rattle.theory.specs.Demands.{accepts-exactly, not-accepted, accepted-unsolvable, found-accepted}
use Rattle.theory.specs.PartialDemands.{whole, Unmet, partial-unmet}
use Rattle.theory.specs.Shorter.{further, longest, list-least, list-further, list-longest, around, task-length}

-- ---- a file has one kind

-- The first number of a file of the new kind is 0.
first-zero : (first : Read ℕ) → kind_by first ≡ gapped → (next : ℕ) × (first ≡ got 0 next)
first-zero (got n next) e = elim (test (eqb n 0)) [ on q ↦ (next, ap (λ m. got m next) (eqb-true n 0 q)) | off q ↦ absurd (let z : ◌≡◌ {A = ℕ} 0 1 = cc in omega arith) ]
first-zero (fault reason place) e = absurd (let z : ◌≡◌ {A = ℕ} 0 1 = cc in omega arith)

module _ (bytes : List ℕ) where
  -- No file is accepted as both.
  pub one-kind : (T U : Task) (next end : ℕ) → judged_as plain bytes ≡ got T next → judged_as gapped bytes ≡ got U end → ⊥
  one-kind T U next end e e' =
      let p = Files.accepted-kind bytes plain T next e in
      let q = Files.accepted-kind bytes gapped U end e' in
      let z : ◌≡◌ {A = ℕ} 0 1 = cc in
      omega arith

  -- "Readers take either kind of task file": they accept a file as a task exactly when it is accepted as that task of one of the two kinds,
  pub either-exactly : (T : Task) (next : ℕ) → (judged_task bytes ≡ got T next) ↔ ((kind : Kind) × (judged_as kind bytes ≡ got T next))
  unfolding judged_task task_of judged_as
  either-exactly T next = (λ e. (kind_of bytes 0, e), λ h. Files.either-accepted bytes h.0 T next h.1)

  -- "by its first number": an accepted file is new exactly when that is 0.
  pub new-exactly : (T : Task) (next : ℕ) → judged_task bytes ≡ got T next → (judged_as gapped bytes ≡ got T next) ↔ ((end : ℕ) × (number bytes 0 ≡ got 0 end))
  unfolding judged_task task_of judged_as kind_of
  new-exactly T next e = (λ h. first-zero (number bytes 0) (Files.accepted-kind bytes gapped T next h), λ h. rw h.1 at e)

-- ---- the first number

-- A number that is 0 is the byte 0, however many groups a number may have.
zero-groups : (k more first : ℕ) (bytes : List ℕ) (place next : ℕ) → groups k first bytes place ≡ got 0 next → groups (suc more) first bytes place ≡ got 0 next
unfolding groups
zero-groups zero more first bytes place next e = absurd (not-got e)
zero-groups (suc k) more first bytes place next e =
    let (begun, q) = test-passed (ltb place (length bytes)) _ _ first 0 next e in
    elim (test (ltb (get_or bytes place 0) group)) [
      | on c ↦ rw (begun, c) (rw c at q)
      | off c ↦ let (high, middle, p, r) = on-got (groups k first bytes (place + 1)) _ 0 next (rw c at q) in
          let (filled, z) = test-failed (eqb high 0) _ _ first 0 next r in
          absurd (omega (arith, eqb-false high 0 filled, got-value z))
    ]

module _ (bytes : List ℕ) where
  -- "0 where an old task is due 2",
  pub zero-refused : (next : ℕ) → number bytes 0 ≡ got 0 next → judged_as plain bytes ≡ fault Limit 0
  unfolding judged_as task_as mark_of parts_of header limited size_list item
  zero-refused next e = rw e refl

  -- with document 01's limits too;
  pub zero-refused-before : (next : ℕ) → number bytes 0 ≡ got 0 next → judged_task_by as_before bytes ≡ fault Limit 0
  unfolding judged_task_by task_by header_by limited_by size_list_by item_by number_by number
  zero-refused-before next e = rw (zero-groups most_groups 1 0 bytes 0 next e) refl

  -- so "The new task file starts with the number 0, which an old reader refuses as 2".
  pub new-refused : (T : Task) (next : ℕ) → judged_as gapped bytes ≡ got T next → (judged_as plain bytes ≡ fault Limit 0) × (judged_task_by as_before bytes ≡ fault Limit 0)
  unfolding kind_of
  new-refused T next e =
      let (end, first) = first-zero (number bytes 0) (Files.accepted-kind bytes gapped T next e) in
      (zero-refused end first, zero-refused-before end first)

  -- A mark other than 0.
  mark-refused : (n next : ℕ) → number bytes 0 ≡ got n next → 0 < n → mark_of gapped bytes 0 ≡ fault Range 0
  unfolding mark_of item
  mark-refused n next e h = rw (e, le-leb 0 n (omega arith), le-ltb n 1 h) refl

  -- "a first number other than 0 where the new kind is due is 3": of a task file,
  pub other-refused : (n next : ℕ) → number bytes 0 ≡ got n next → 0 < n → judged_as gapped bytes ≡ fault Range 0
  unfolding judged_as task_as
  other-refused n next e h = rw (mark-refused n next e h) refl

  -- and of a weight file.
  pub other-weights-refused : (many n next : ℕ) → number bytes 0 ≡ got n next → 0 < n → judged_weights_as gapped many bytes ≡ fault Range 0
  unfolding judged_weights_as
  other-weights-refused many n next e h = rw (mark-refused n next e h) refl

  -- A first number that is badly formed is refused for that, where either kind is due.
  pub ill-formed : (kind : Kind) (reason : Reason) (place : ℕ) → number bytes 0 ≡ fault reason place → judged_as kind bytes ≡ fault reason place
  unfolding judged_as task_as mark_of parts_of header limited size_list item
  ill-formed plain reason place e = rw e refl
  ill-formed gapped reason place e = rw e refl

  pub ill-formed-weights : (kind : Kind) (n : ℕ) (reason : Reason) (place : ℕ) → number bytes 0 ≡ fault reason place → judged_weights_as kind n bytes ≡ fault reason place
  unfolding judged_weights_as mark_of feature_list item
  ill-formed-weights plain n reason place e = rw e refl
  ill-formed-weights gapped n reason place e = rw e refl

  -- So an old file where the new kind is due is 3.
  pub old-refused : (T : Task) (next : ℕ) → judged_as plain bytes ≡ got T next → judged_as gapped bytes ≡ fault Range 0
  unfolding kind_of
  old-refused T next e = by (number bytes 0) refl (Files.accepted-kind bytes plain T next e)
    where
      by : (first : Read ℕ) → number bytes 0 ≡ first → kind_by first ≡ plain → judged_as gapped bytes ≡ fault Range 0
      by (got n end) read q = elim (test (eqb n 0)) [
        | on z ↦ absurd (let u : ◌≡◌ {A = ℕ} 0 1 = cc in omega arith)
        | off z ↦ other-refused n end read (omega (arith, eqb-false n 0 z))
      ]
      by (fault reason place) read q = absurd (not-got (sym (ill-formed plain reason place read) ∙ e))

-- ---- "A gap list whose sum passes the range is 3"

-- So many numbers, of any value.
abbrev numbers_of : ℕ → Parser (List ℕ)
numbers_of k = items_of 0 Range (replicate k number_end)

-- The last feature is the numbers added up, and one for each but the last, above the least that the first can be.
gaps-past : (k low high least : ℕ) (bytes : List ℕ) (place : ℕ) (ns : List ℕ) (end : ℕ) → numbers_of k bytes place ≡ got ns end → least ≤ high → high < least + (sum_of ns + length ns)
    → (at : ℕ) × (features_of gapped k low high least bytes place ≡ fault Range at)
unfolding items_of sum_of features_of feature_of
gaps-past zero low high least bytes place ns end e h past = let none : [] ≡ ns = got-value e in absurd (let s : sum_of ns + length ns ≡ 0 = ap (λ l. sum_of l + length l) (sym none) in omega (arith, s))
gaps-past (suc k) low high least bytes place ns end e h past =
    let (n, next, p, q) = on-got (item (inside 0 number_end) Range bytes place) _ ns end e in
    let (ms, after, r, z) = on-got (numbers_of k bytes next) _ ns end q in
    let first = item-read (inside 0 number_end) Range bytes place n next p in
    let all : sum_of ns + length ns ≡ suc (n + (sum_of ms + length ms)) = ap (λ l. sum_of l + length l) (sym (got-value z)) ∙ omega arith in
    elim (test (inside low high (least + n))) [
      | on t ↦ let below : least + n < high = ltb-true (least + n) high (and_right (leb low (least + n)) _ t) in
          let (at, fails) = gaps-past k low high (suc (least + n)) bytes next ms after r below (omega (arith, past, all)) in
          (at, rw (first, t, fails) refl)
      | off t ↦ (place, rw (first, t) refl)
    ]

-- For a list of any range, and so for the pairs of a new task file and for new weights: its numbers are well formed, and the last feature is not below the end of the range.
pub sum_past : (low high : ℕ) (bytes : List ℕ) (place k next : ℕ) (ns : List ℕ) (end : ℕ) → number bytes place ≡ got k next → numbers_of k bytes next ≡ got ns end → high < sum_of ns + length ns
    → (at : ℕ) × (feature_list gapped low high bytes place ≡ fault Range at)
unfolding feature_list
sum_past low high bytes place k next ns end e read past = let (at, fails) = gaps-past k low high 0 bytes next ns end read (omega arith) (omega (arith, past)) in (at, rw (e, fails) refl)

-- ---- "4 no longer occurs for gap lists"

-- Any number but 4.
abbrev not_four : Reason → Bool
not_four reason = not (eqb (refusal reason) (refusal Unordered))

-- One gap, several, and a list of them.
gap-faults : (low high least : ℕ) (bytes : List ℕ) (place : ℕ) → FaultsAmong not_four (feature_of gapped low high least bytes place)
unfolding feature_of
gap-faults low high least bytes place = on-among (number bytes place) _ (number-among bytes place (refl, refl, refl))
    (λ n next. tested-among (inside low high (least + n)) (least + n) next Range place refl)

gaps-faults : (k low high least : ℕ) (bytes : List ℕ) (place : ℕ) → FaultsAmong not_four (features_of gapped k low high least bytes place)
unfolding features_of
gaps-faults zero low high least bytes place = got-among _ place
gaps-faults (suc k) low high least bytes place = on-among (feature_of gapped low high least bytes place) _ (gap-faults low high least bytes place)
    (λ f next. on-among (features_of gapped k low high (suc f) bytes next) _ (gaps-faults k low high (suc f) bytes next) (λ fs end. got-among _ end))

list-faults : (low high : ℕ) (bytes : List ℕ) (place : ℕ) → FaultsAmong not_four (feature_list gapped low high bytes place)
unfolding feature_list
list-faults low high bytes place = on-among (number bytes place) _ (number-among bytes place (refl, refl, refl)) (λ k next. gaps-faults k low high 0 bytes next)

mark-faults : (bytes : List ℕ) (place : ℕ) → FaultsAmong not_four (mark_of gapped bytes place)
unfolding mark_of
mark-faults bytes place = on-among _ _ (item-among (inside 0 1) Range bytes place (refl, refl, refl) refl) (λ n next. got-among tt next)

not-four : {A : Type 0} (read : Read A) → FaultsAmong not_four read → (reason : Reason) (place : ℕ) → read ≡ fault reason place → refusal reason ≢ refusal Unordered
not-four read among reason place e q = let t = among.reasoned reason place e in let s = eq-eqb (refusal reason) (refusal Unordered) q in let z : ◌≡◌ {A = ℕ} 0 1 = cc in omega arith

-- Not for the pairs of a new task file, whatever their range,
pub pairs-not-four : (low high : ℕ) (bytes : List ℕ) (place : ℕ) (reason : Reason) (at : ℕ) → feature_list gapped low high bytes place ≡ fault reason at → refusal reason ≢ refusal Unordered
pairs-not-four low high bytes place = not-four (feature_list gapped low high bytes place) (list-faults low high bytes place)

-- and not for a new weight file.
pub weights-not-four : (n : ℕ) (bytes : List ℕ) (reason : Reason) (at : ℕ) → judged_weights_as gapped n bytes ≡ fault reason at → refusal reason ≢ refusal Unordered
unfolding judged_weights_as
weights-not-four n bytes = not-four _ (on-among (mark_of gapped bytes 0) _ (mark-faults bytes 0) (λ u place.
    on-among (feature_list gapped 0 n bytes place) _ (list-faults 0 n bytes place) (λ ws next. on-among (ended bytes next) _ (ended-among bytes next refl) (λ v end. got-among ws end))))

-- ---- the way back: task files

other-other : (kind : Kind) → other (other kind) ≡ kind
other-other plain = refl
other-other gapped = refl

-- Where a converter answers a length, so many bytes of the room are the file of its kind, and the others stay.
pub record ConvertedTask (kind : Kind) (task room left : List ℕ) (k : ℕ) : Type 0 where
  -- Each file is accepted as one of its own kind,
  pub named : Task
  pub came-as : judged_as (other kind) task ≡ got named (length task)
  pub went-as : judged_as kind (take k left) ≡ got named k
  -- and "both name the same task".
  pub came : judged_task task ≡ got named (length task)
  pub went : judged_task (take k left) ≡ got named k
  pub kind-came : kind_of task 0 ≡ other kind
  pub kind-went : kind_of (take k left) 0 ≡ kind
  pub others : drop k left ≡ drop k room

module _ (kind : Kind) (task room left : List ℕ) (k : ℕ) (converts : Converts kind task room (record { answer = done k; lent = left })) where
  pub converted : ConvertedTask kind task room left k
  converted =
      let (T, end, e, leaves) = builds-leave room left k (judged_as (other kind) task) (task_bytes_as kind) converts in
      let (last, writable, _) = Files.accepted-as task (other kind) T end e in
      let from : judged_as (other kind) task ≡ got T (length task) = e ∙ ap (got T) last in
      let to : judged_as kind (take k left) ≡ got T k = ap (judged_as kind) leaves.front ∙ read-back-as kind T writable ∙ ap (got T) leaves.width in
      record {
        named = T;
        came-as = from;
        went-as = to;
        came = Files.either-accepted task (other kind) T (length task) from;
        went = Files.either-accepted (take k left) kind T k to;
        kind-came = Files.accepted-kind task (other kind) T (length task) from;
        kind-went = Files.accepted-kind (take k left) kind T k to;
        others = leaves.others;
      }

  -- So the calls that take either kind answer alike for both.
  pub opens-same : (room' : List ℕ) (outcome : Outcome ℕ) → Opens (take k left) room' outcome ↔ Opens task room' outcome
  opens-same room' outcome = rw (converted.came, converted.went) Iff.rfl

  pub checks-same : (weights : List ℕ) (answer : Answer Verdict) → Checks (take k left) weights answer ↔ Checks task weights answer
  checks-same weights answer = rw (converted.came, converted.went) Iff.rfl

  -- Converted back, with room for them, it is the same bytes and nothing else.
  pub there_and_back : Bytes task → (room' : List ℕ) → length task ≤ length room' → (outcome : Outcome ℕ)
      → Converts (other kind) (take k left) room' outcome ↔ (outcome ≡ writes (length task) task room')
  there_and_back small room' fits outcome =
      let c = converted in
      let bytes : task ≡ task_bytes_as (other kind) c.named = (Files.accepted-as task (other kind) c.named (length task) c.came-as).2 small in
      rw (other-other kind, c.went-as, ← bytes, delivered-written task room' (length task) refl fits) Iff.rfl

-- "Old to new and back gives the same bytes,
pub old-new-old : (task room new : List ℕ) (k : ℕ) → ConvertsToNew task room (record { answer = done k; lent = new }) → Bytes task
    → (room' : List ℕ) → length task ≤ length room' → (outcome : Outcome ℕ) → ConvertsToOld (take k new) room' outcome ↔ (outcome ≡ writes (length task) task room')
old-new-old = there_and_back gapped

-- as does new to old and back".
pub new-old-new : (task room old : List ℕ) (k : ℕ) → ConvertsToOld task room (record { answer = done k; lent = old }) → Bytes task
    → (room' : List ℕ) → length task ≤ length room' → (outcome : Outcome ℕ) → ConvertsToNew (take k old) room' outcome ↔ (outcome ≡ writes (length task) task room')
new-old-new = there_and_back plain

-- ---- the way back: weights beside their task

-- The features of an accepted task are no more than a weight list is written for.
few-features : (file : List ℕ) (T : Task) (next : ℕ) → judged_task file ≡ got T next → features T.sizes ≤ most_features
few-features file T next e = (Files.accepted file T next e).acceptable.limits.total

-- The same of a weight list, beside its task.
pub record ConvertedWeights (kind : Kind) (task weights room left : List ℕ) (k : ℕ) : Type 0 where
  pub beside : Task
  pub accepted : judged_task task ≡ got beside (length task)
  -- Both files name the same weights, each as one of its own kind.
  pub named : List ℕ
  pub came : judged_weights_as (other kind) (features beside.sizes) weights ≡ got named (length weights)
  pub went : judged_weights_as kind (features beside.sizes) (take k left) ≡ got named k
  pub others : drop k left ≡ drop k room

module _ (kind : Kind) (task weights room left : List ℕ) (k : ℕ) (converts : ConvertsWeights kind task weights room (record { answer = done k; lent = left })) where
  pub weights-converted : ConvertedWeights kind task weights room left k
  weights-converted =
      let (T, end, e, given) = by-got (judged_task task) _ _ (not-refused room left k) converts in
      let n = features T.sizes in
      let (fs, last, p, leaves) = builds-leave room left k (judged_weights_as (other kind) n weights) (weight_bytes_as kind) given in
      let run = Files.weights-accepted-as weights (other kind) n fs last p in
      record {
        beside = T;
        accepted = e ∙ ap (got T) (Files.accepted-end task T end e);
        named = fs;
        came = p ∙ ap (got fs) (Files.weights-end-as weights (other kind) n fs last p);
        went = ap (judged_weights_as kind n) leaves.front ∙ weights-back-as kind n fs (few-features task T end e) run ∙ ap (got fs) leaves.width;
        others = leaves.others;
      }

  -- A checker that is told their kind gives both the same verdict.
  pub checks-same-weights : (answer : Answer Verdict) → ChecksAs kind (judged_task task) (take k left) answer ↔ ChecksAs (other kind) (judged_task task) weights answer
  checks-same-weights answer = let c = weights-converted in rw (c.accepted, c.came, c.went) Iff.rfl

  -- Converted back, beside any file that names the same task, it is the same bytes.
  pub weights-there-and-back : Bytes weights → (task' : List ℕ) (T : Task) (i j : ℕ) → judged_task task ≡ got T i → judged_task task' ≡ got T j
      → (room' : List ℕ) → length weights ≤ length room' → (outcome : Outcome ℕ)
      → ConvertsWeights (other kind) task' (take k left) room' outcome ↔ (outcome ≡ writes (length weights) weights room')
  weights-there-and-back small task' T i j e e' room' fits outcome =
      let c = weights-converted in
      let same : judged_task task' ≡ got c.beside j = e' ∙ ap (λ U. got U j) (got-value (sym e ∙ c.accepted)) in
      let n = features c.beside.sizes in
      let bytes : weights ≡ weight_bytes_as (other kind) c.named = Files.weights-bytes-as weights (other kind) n c.named (length weights) c.came small in
      rw (same, other-other kind, c.went, ← bytes, delivered-written weights room' (length weights) refl fits) Iff.rfl

weights-back-beside : (kind : Kind) (task weights room left : List ℕ) (k : ℕ) → ConvertsWeights kind task weights room (record { answer = done k; lent = left }) → Bytes weights
    → (room' : List ℕ) → length weights ≤ length room' → (outcome : Outcome ℕ)
    → ConvertsWeights (other kind) task (take k left) room' outcome ↔ (outcome ≡ writes (length weights) weights room')
weights-back-beside kind task weights room left k converts small =
    let c = weights-converted kind task weights room left k converts in
    weights-there-and-back kind task weights room left k converts small task c.beside (length task) (length task) c.accepted c.accepted

-- Beside the task itself: old to new and back,
pub old-new-old-weights : (task weights room new : List ℕ) (k : ℕ) → ConvertsWeightsToNew task weights room (record { answer = done k; lent = new }) → Bytes weights
    → (room' : List ℕ) → length weights ≤ length room' → (outcome : Outcome ℕ)
    → ConvertsWeightsToOld task (take k new) room' outcome ↔ (outcome ≡ writes (length weights) weights room')
old-new-old-weights = weights-back-beside gapped

-- and new to old and back.
pub new-old-new-weights : (task weights room old : List ℕ) (k : ℕ) → ConvertsWeightsToOld task weights room (record { answer = done k; lent = old }) → Bytes weights
    → (room' : List ℕ) → length weights ≤ length room' → (outcome : Outcome ℕ)
    → ConvertsWeightsToNew task (take k old) room' outcome ↔ (outcome ≡ writes (length weights) weights room')
new-old-new-weights = weights-back-beside plain

-- ---- when the calls refuse

-- to_new: the first fault of an old file; then 8.
pub to-new-refuses : (task room : List ℕ) → RefusesExactly (ConvertsToNew task room) room (Faulty (build_judged (judged_as plain task) (task_bytes_as gapped) room))
to-new-refuses task = builds-exactly (judged_as plain task) (task_bytes_as gapped)

-- to_old: the first fault of a new file; then 8.
pub to-old-refuses : (task room : List ℕ) → RefusesExactly (ConvertsToOld task room) room (Faulty (build_judged (judged_as gapped task) (task_bytes_as plain) room))
to-old-refuses task = builds-exactly (judged_as gapped task) (task_bytes_as plain)

-- weights_to_new: the task's first fault; that of old weights; then 8.
pub weights-to-new-refuses : (task weights room : List ℕ) → RefusesExactly (ConvertsWeightsToNew task weights room) room (Faulty (convert_weights_judged gapped task weights room))
weights-to-new-refuses task weights room = refuses-exactly (converts-weights-only gapped task weights room) (λ n left. converts-weights-refused n left gapped task weights room)

-- weights_to_old: the task's first fault; that of new weights; then 8.
pub weights-to-old-refuses : (task weights room : List ℕ) → RefusesExactly (ConvertsWeightsToOld task weights room) room (Faulty (convert_weights_judged plain task weights room))
weights-to-old-refuses task weights room = refuses-exactly (converts-weights-only plain task weights room) (λ n left. converts-weights-refused n left plain task weights room)

-- check_new: the task's first fault; then that of new weights.
pub check-new-refuses : (task weights : List ℕ) (answer : Answer Verdict) → ChecksNew task weights answer → (n : ℕ)
    → (answer ≡ refused n) ↔ Faulty (check_judged gapped (judged_task task) weights) n
check-new-refuses task = checks-exactly gapped (judged_task task)

-- check_partial_new: the partial file's first fault; then that of new weights.
pub check-partial-new-refuses : (file weights : List ℕ) (answer : Answer Verdict) → ChecksPartialNew file weights answer → (n : ℕ)
    → (answer ≡ refused n) ↔ Faulty (check_judged gapped (judged_partial left_out file) weights) n
check-partial-new-refuses file = checks-exactly gapped (judged_partial left_out file)

-- ---- demand 2 with new weights

-- New weights are checked as the old ones that name the same weights, beside whatever file the task was read from.
module _ (judged : Read Task) (T : Task) (next : ℕ) (e : judged ≡ got T next) (new old fs : List ℕ) (i j : ℕ)
    (reads-new : judged_weights_as gapped (features T.sizes) new ≡ got fs i) (reads_old : judged_weights (features T.sizes) old ≡ got fs j) where
  checks-alike : (answer : Answer Verdict) → ChecksAs gapped judged new answer ↔ ChecksAs plain judged old answer
  checks-alike answer = rw (e, reads-new, reads_old) Iff.rfl

-- check_new,
pub check-new-alike : (file : List ℕ) (T : Task) (next : ℕ) → judged_task file ≡ got T next → (new old fs : List ℕ) (i j : ℕ)
    → judged_weights_as gapped (features T.sizes) new ≡ got fs i → judged_weights (features T.sizes) old ≡ got fs j
    → (answer : Answer Verdict) → ChecksNew file new answer ↔ Checks file old answer
check-new-alike file = checks-alike (judged_task file)

-- and check_partial_new.
pub check-partial-new-alike : (file : List ℕ) (T : Task) (next : ℕ) → judged_partial left_out file ≡ got T next → (new old fs : List ℕ) (i j : ℕ)
    → judged_weights_as gapped (features T.sizes) new ≡ got fs i → judged_weights (features T.sizes) old ≡ got fs j
    → (answer : Answer Verdict) → ChecksPartialNew file new answer ↔ ChecksPartial file old answer
check-partial-new-alike file = checks-alike (judged_partial left_out file)

-- New weights that are read name weights that the old file written for them names.
old-weights : (T : Task) (new fs : List ℕ) (end : ℕ) → features T.sizes ≤ most_features → judged_weights_as gapped (features T.sizes) new ≡ got fs end
    → judged_weights (features T.sizes) (weight_bytes fs) ≡ got fs (length (weight_bytes fs))
old-weights T new fs end few read = weights-back (features T.sizes) fs few (Files.weights-accepted-as new gapped (features T.sizes) fs end read)

-- "the checker accepts weights, from anyone, exactly when they separate start from goal"
pub new-accepts-exactly : (file : List ℕ) (T : Task) (next : ℕ) → judged_task file ≡ got T next → (new fs : List ℕ) (end : ℕ)
    → judged_weights_as gapped (features T.sizes) new ≡ got fs end → ChecksNew file new (done accepted) ↔ Separates T (listed fs)
new-accepts-exactly file T next e new fs end read =
    let again = old-weights T new fs end (few-features file T next e) read in
    Iff.trans (check-new-alike file T next e new (weight_bytes fs) fs end _ read again (done accepted)) (accepts-exactly file T next e (weight_bytes fs) fs _ again)

-- Where new weights are accepted, old ones are.
accepted-old : (judged : Read Task) → ((T : Task) (next : ℕ) → judged ≡ got T next → features T.sizes ≤ most_features) → (new : List ℕ)
    → ChecksAs gapped judged new (done accepted) → (old : List ℕ) × ChecksAs plain judged old (done accepted)
accepted-old judged few new checks =
    let (T, next, e, given) = by-got judged _ _ not-accepted checks in
    let (fs, end, read, _) = by-got (judged_weights_as gapped (features T.sizes) new) _ _ not-accepted given in
    (weight_bytes fs, (checks-alike judged T next e new (weight_bytes fs) fs end _ read (old-weights T new fs end (few T next e) read) (done accepted)).0 checks)

-- "once it accepts, no sequence of that task's moves leads from the start to the goal"
pub new-accepted-unsolvable : (file new : List ℕ) → ChecksNew file new (done accepted) → (T : Task) × (next : ℕ) × (judged_task file ≡ got T next) × Unsolvable T
new-accepted-unsolvable file new checks = let (old, again) = accepted-old (judged_task file) (few-features file) new checks in accepted-unsolvable file old again

-- check_partial_new: accepted weights mean that no sequence of the file's moves meets the order.
pub new-partial-unmet : (file new : List ℕ) → ChecksPartialNew file new (done accepted) → Unmet file
new-partial-unmet file new checks =
    let (old, again) = accepted-old (judged_partial left_out file) (λ T next e. (whole file left_out T next e).writable.acceptable.limits.total) new checks in
    partial-unmet file old again

-- What the finder gives, written as a new weight file, check_new accepts.
pub new-found-accepted : (file : List ℕ) (T : Task) (next : ℕ) → judged_task file ≡ got T next → (room workspace : List ℕ) (k : ℕ)
    → Opens file room (record { answer = done k; lent = workspace }) → (lent lent' : List ℕ) → Finds workspace lent (record { answer = done separated; lent = lent' })
    → ChecksNew file (weight_bytes_as gapped (members (features T.sizes) (has lent'))) (done accepted)
new-found-accepted file T next e room workspace k opens lent lent' finds =
    let n = features T.sizes in
    let fs = members n (has lent') in
    let run = run-members n (has lent') in
    (check-new-alike file T next e (weight_bytes_as gapped fs) (weight_bytes fs) fs _ _ (weights-back-as gapped n fs (few-features file T next e) run)
    (weights-back n fs (few-features file T next e) run) (done accepted)).1 (found-accepted file T next e room workspace k opens lent lent' finds)

-- ---- how much room a converted file takes

-- So many bytes more than a file has are enough for the file of a kind: the mark of a new one, since no gap is longer than its feature; and what features have more than a byte each,
-- less the mark, since a gap has one at least.
abbrev more : Kind → ℕ
more gapped = 1
more plain = further most_features - 1

-- The longest weight file of a kind.
abbrev longest_weights : Kind → ℕ
longest_weights kind = length (mark_bytes kind) + longest kind

mark-length : (length (mark_bytes gapped) ≡ 1) × (length (mark_bytes plain) ≡ 0)
unfolding number_bytes group_bytes
mark-length = (refl, refl)

-- As the header names them.
rooms : (more gapped ≡ 1) × (more plain ≡ 49023) × (longest_weights gapped ≡ 32772) × (longest_weights plain ≡ 81795)
unfolding number_bytes group_bytes
rooms = (refl, refl, refl, refl)

weights-length : (kind : Kind) (fs : List ℕ) → length (weight_bytes_as kind fs) ≡ length (mark_bytes kind) + length (list_bytes kind fs)
unfolding weight_bytes_as
weights-length kind fs = length-append (mark_bytes kind) (list_bytes kind fs)

-- A task file of one kind beside that of the other,
pub task-more : (kind : Kind) (T : Task) → Acceptable T → length (task_bytes_as kind T) ≤ length (task_bytes_as (other kind) T) + more kind
task-more gapped T ok = omega (arith, task-length gapped T, task-length plain T, list-least gapped T.pairs, mark-length.0, mark-length.1)
task-more plain T ok = omega (
  arith,
  task-length gapped T,
  task-length plain T,
  list-further gapped (atoms T.sizes) (features T.sizes) T.pairs ok.limits.total ok.pairs,
  mark-length.0,
  mark-length.1,
)

-- and weights for a task with n features; these are never longer than so much.
module _ (n : ℕ) (few : n ≤ most_features) (fs : List ℕ) (run : Run 0 fs n) where
  pub weights-more : (kind : Kind) → length (weight_bytes_as kind fs) ≤ length (weight_bytes_as (other kind) fs) + more kind
  weights-more gapped = omega (arith, weights-length gapped fs, weights-length plain fs, list-least gapped fs, mark-length.0, mark-length.1)
  weights-more plain = omega (arith, weights-length gapped fs, weights-length plain fs, list-further gapped 0 n fs few run, mark-length.0, mark-length.1)

  pub weights-longest : (kind : Kind) → length (weight_bytes_as kind fs) ≤ longest_weights kind
  weights-longest kind = omega (arith, weights-length kind fs, list-longest kind 0 n fs few run)

-- So such a room is not too small: for an accepted task,
convert-fits : (kind : Kind) (task : List ℕ) (T : Task) (next : ℕ) → judged_as (other kind) task ≡ got T next → Bytes task → (room : List ℕ) → length task + more kind ≤ length room
    → (outcome : Outcome ℕ) → Converts kind task room outcome → (k : ℕ) × (outcome.answer ≡ done k)
convert-fits kind task T next e small room fits outcome converts =
    let (_, writable, exact) = Files.accepted-as task (other kind) T next e in
    let enough : length (task_bytes_as kind T) ≤ length room = omega (arith, task-more kind T writable.acceptable, ap length (exact small), fits) in
    delivered-done (task_bytes_as kind T) room enough outcome (rw e at converts)

-- to_new,
pub to-new-fits : (task : List ℕ) (T : Task) (next : ℕ) → judged_as plain task ≡ got T next → Bytes task → (room : List ℕ) → length task + more gapped ≤ length room
    → (outcome : Outcome ℕ) → ConvertsToNew task room outcome → (k : ℕ) × (outcome.answer ≡ done k)
to-new-fits = convert-fits gapped

-- to_old,
pub to-old-fits : (task : List ℕ) (T : Task) (next : ℕ) → judged_as gapped task ≡ got T next → Bytes task → (room : List ℕ) → length task + more plain ≤ length room
    → (outcome : Outcome ℕ) → ConvertsToOld task room outcome → (k : ℕ) × (outcome.answer ≡ done k)
to-old-fits = convert-fits plain

-- and for accepted weights beside their task; the longest file's is not either.
convert-weights-fits : (kind : Kind) (task weights : List ℕ) (T : Task) (fs : List ℕ) (next end : ℕ) → judged_task task ≡ got T next
    → judged_weights_as (other kind) (features T.sizes) weights ≡ got fs end → Bytes weights → (room : List ℕ)
    → (length weights + more kind ≤ length room) ⊎ (longest_weights kind ≤ length room)
    → (outcome : Outcome ℕ) → ConvertsWeights kind task weights room outcome → (k : ℕ) × (outcome.answer ≡ done k)
convert-weights-fits kind task weights T fs next end e read small room fits outcome converts =
    let n = features T.sizes in
    let few = few-features task T next e in
    let run = Files.weights-accepted-as weights (other kind) n fs end read in
    let bytes : weights ≡ weight_bytes_as (other kind) fs = Files.weights-bytes-as weights (other kind) n fs end read small in
    let enough : length (weight_bytes_as kind fs) ≤ length room = elim fits [
      | inl behind ↦ omega (arith, weights-more n few fs run kind, ap length bytes, behind)
      | inr whole ↦ omega (arith, weights-longest n few fs run kind, whole)
    ] in
    delivered-done (weight_bytes_as kind fs) room enough outcome (rw (e, read) at converts)

-- weights_to_new,
pub weights-to-new-fits : (task weights : List ℕ) (T : Task) (fs : List ℕ) (next end : ℕ) → judged_task task ≡ got T next
    → judged_weights (features T.sizes) weights ≡ got fs end → Bytes weights → (room : List ℕ)
    → (length weights + more gapped ≤ length room) ⊎ (longest_weights gapped ≤ length room)
    → (outcome : Outcome ℕ) → ConvertsWeightsToNew task weights room outcome → (k : ℕ) × (outcome.answer ≡ done k)
weights-to-new-fits = convert-weights-fits gapped

-- weights_to_old.
pub weights-to-old-fits : (task weights : List ℕ) (T : Task) (fs : List ℕ) (next end : ℕ) → judged_task task ≡ got T next
    → judged_weights_as gapped (features T.sizes) weights ≡ got fs end → Bytes weights → (room : List ℕ)
    → (length weights + more plain ≤ length room) ⊎ (longest_weights plain ≤ length room)
    → (outcome : Outcome ℕ) → ConvertsWeightsToOld task weights room outcome → (k : ℕ) × (outcome.answer ≡ done k)
weights-to-old-fits = convert-weights-fits plain

-- ---- how much room the partial file of a task takes

-- Each mark is a byte, and no goal value is written that the task has not.
marks-bytes : (sizes goal : List ℕ) → length (bytes_of number_bytes (marks_in sizes goal)) ≤ length sizes
unfolding marks_in bytes_of number_bytes group_bytes
marks-bytes [] goal = omega arith
marks-bytes (d ∷ ds) [] = omega arith
marks-bytes (d ∷ ds) (g ∷ gs) = elim (test (ltb g d)) [ on e ↦ rw e (omega (arith, marks-bytes ds gs)) | off e ↦ rw e (omega (arith, marks-bytes ds gs)) ]

named-bytes : (sizes given goal : List ℕ) → length given ≡ length goal → ((i : ℕ) → i < length sizes → value given i < size sizes i → value given i ≡ value goal i)
    → length (bytes_of number_bytes (named_in sizes given)) ≤ length (bytes_of number_bytes goal)
unfolding named_in bytes_of
named-bytes [] given goal e h = omega arith
named-bytes (d ∷ ds) [] goal e h = omega arith
named-bytes (d ∷ ds) (g ∷ gs) [] e h = absurd (omega (arith, e))
named-bytes (d ∷ ds) (g ∷ gs) (x ∷ xs) e h =
    let rest = named-bytes ds gs xs (omega (arith, e)) (λ i l. h (suc i) (omega arith)) in
    let whole = length-append (number_bytes x) (bytes_of number_bytes xs) in
    elim (test (ltb g d)) [
      | on q ↦ let same : g ≡ x = h 0 (omega arith) (ltb-true g d q) in
          rw q (omega (arith, rest, whole, length-append (number_bytes g) (bytes_of number_bytes (named_in ds gs)), ap (λ n. length (number_bytes n)) same))
      | off q ↦ rw q (omega (arith, rest, whole))
    ]

-- So it has a byte for each variable more than the old file of the task, at most.
silenced-bytes : (T : Task) (marks : List ℕ) → Acceptable T → length (partial_bytes (silenced T marks)) ≤ length (task_bytes T) + most_variables
unfolding partial_bytes silenced around list_bytes
silenced-bytes T marks ok =
    let v = length T.sizes in
    let pick : ℕ → ℕ = λ i. cond (eqb (value marks i) 1) (value T.goal i) (size T.sizes i) in
    let given = table v pick in
    let operators = weight_bytes T.pairs ++ counted operator_bytes T.operators in
    let named = bytes_of number_bytes (named_in T.sizes given) ++ operators in
    let start = bytes_of number_bytes T.start ++ named in
    let said = bytes_of number_bytes (marks_in T.sizes given) ++ start in
    omega (
      arith,
      length-append (counted number_bytes T.sizes) said,
      length-append (bytes_of number_bytes (marks_in T.sizes given)) start,
      length-append (bytes_of number_bytes T.start) named,
      length-append (bytes_of number_bytes (named_in T.sizes given)) operators,
      length-append (weight_bytes T.pairs) (counted operator_bytes T.operators),
      marks-bytes T.sizes given,
      named-bytes T.sizes given T.goal (length-table v pick ∙ sym ok.goal.full) (λ i l h. get_d-table v pick i 0 l ∙ kept i (rw (get_d-table v pick i 0 l) at h)),
      task-length plain T,
      ok.limits.variables,
    )
  where
    kept : (i : ℕ) → cond (eqb (value marks i) 1) (value T.goal i) (size T.sizes i) < size T.sizes i
        → cond (eqb (value marks i) 1) (value T.goal i) (size T.sizes i) ≡ value T.goal i
    kept i h = elim (test (eqb (value marks i) 1)) [ on e ↦ rw e refl | off e ↦ absurd (let l : size T.sizes i < size T.sizes i = rw e at h in omega arith) ]

-- What an old file may have more than the file that came.
abbrev spare : Kind → ℕ
spare plain = 0
spare gapped = more plain

old-spare : (kind : Kind) (T : Task) → Acceptable T → length (task_bytes T) ≤ length (task_bytes_as kind T) + spare kind
old-spare plain T ok = omega arith
old-spare gapped T ok = task-more plain T ok

-- A room that has so many bytes more than the task is not too small for `silence`.
pub silence-fits : (task marks : List ℕ) (T : Task) (next : ℕ) → judged_task task ≡ got T next → Bytes task → marks_judged T marks ≡ fine → (room : List ℕ)
    → length task + spare (kind_of task 0) + most_variables ≤ length room → (outcome : Outcome ℕ) → Silences task marks room outcome → (k : ℕ) × (outcome.answer ≡ done k)
silence-fits task marks T next e small good room fits outcome silences =
    let ok = (Files.accepted task T next e).acceptable in
    let enough : length (partial_bytes (silenced T marks)) ≤ length room =
    omega (arith, silenced-bytes T marks ok, old-spare (kind_of task 0) T ok, ap length (Files.accepted-bytes task T next e small), fits) in
    delivered-done (partial_bytes (silenced T marks)) room enough outcome (rw (e, good) at silences)

-- Every value that a call can answer fits: it is below 2^32.
use Rattle.std.specs.Prelude.{ℕ, ◌^◌, ◌<◌, ◌≤◌, ◌≡◌, refl, ◌⊎◌, Bool, true, false, cond, List, [], ◌∷◌, ltb, length}
use Rattle.std.proofs.Common.{inl, inr, arith, mul-le-mul}
use Rattle.meaning.specs.Limits.{most_features, fault_words, place_words}
use Rattle.meaning.specs.Task.{Task}
use Rattle.meaning.specs.Feature.{atoms, features}
use Rattle.meaning.specs.Number.{Reason, Small, Malformed, refusal, Read, got}
use Rattle.meaning.specs.File.{Kind, plain, other, kind_of, task_of, judged_task, judged_as, judged_weights_as, weight_bytes, weight_bytes_as, task_bytes_as, InLimits, Writable}
use Rattle.meaning.specs.Workspace.{packed, words_for, words_due, Content, words_of, WellFormed}
use Rattle.meaning.specs.Answer.{Answer, done, refused, Outcome, refuses, writes, delivered, by_read, Verdict, accepted, ends_alike, breaks, ChecksAs, OpensAs, Opens}
use Rattle.meaning.specs.Answer.{Finding, none, separated, FindsIn, FindsBy, Finds, Edit, Judged, fine, faulty, edit_judged, EditsIn, Edits}
use Rattle.meaning.specs.Bay.{judged_bay, bay_task, Builds}
use Rattle.meaning.specs.Partial.{Partial, judged_partial, left_out, partial_bytes, OpensPartial, BuildsBy, silenced, marks_judged, silences_by, Silences}
use Rattle.meaning.specs.Convert.{Converts, ConvertsWeights}
use Rattle.meaning.specs.Mend.{mended, PairFault, no_fault, start_holds, operator_breaks, FindsFault, FaultsPairs, Mends, Drops}
use Rattle.meaning.specs.Place.{Holder, Part, of_task, of_weights, holder_of, part_words, displayed}
use Rattle.meaning.specs.Line.{line, printed_spot, checked_spot, verdict_line}
use Rattle.theory.specs.Run.{run_length}
use Rattle.theory.specs.Accepted.{accepted as task-accepted, accepted-as, read_known, weights-accepted-as}
use Rattle.theory.specs.Mending.{mended-writable}
use Rattle.theory.specs.BayTask.{bay-accepted}
use Rattle.theory.specs.PartialFile.{accepted-partial}
use Rattle.theory.specs.Silence.{marks-ordered}
use Rattle.theory.specs.Truth.{on, off, test}
use Rattle.line.specs.Answer.{Lines}
use Rattle.line.specs.Fits.{line-short}
use Rattle.text.specs.Allowed.{is-good, if-good, read-good}
use Rattle.text.specs.Parts.{place_digits, refusal-short}
use Rattle.verdicts.specs.Answer.{VerdictLines}
use Rattle.verdicts.specs.Fits.{Short, checks-as-short, line-few}
use Rattle.writer.specs.Weights.{weights_judged, weights_written, Writes}
use Rattle.writer.specs.Widths.{list-few}
use Rattle.writer.specs.Longest.{weights-few, task-few, partial-few}
use Rattle.writer.specs.Judging.{fine-few, weights-refused, weights-delivered}
use Rattle.codes.specs.Code.{value_end, verdict_code, length_code, finding_code, edit_code, fault_code, holder_code, Fits, FitsIn}

refusal-fits : (reason : Reason) → refusal reason < value_end
refusal-fits reason = omega (arith, refusal-short reason)

-- What is allowed of a workspace is good, if it is so for each content and where there is none.
module _ {A : Type 0} (Good : A → Type 0) where
  formed-good : (workspace : List ℕ) (P : Content → A → Type 0) (bad : A) → ((c : Content) (a : A) → P c a → Good a) → Good bad
      → (a : A) → ((WellFormed workspace → ⊥) × (a ≡ bad)) ⊎ ((formed : WellFormed workspace) × P formed.content a) → Good a
  formed-good workspace P bad good refusal a (inl h) = is-good Good bad refusal a h.1
  formed-good workspace P bad good refusal a (inr h) = good h.0.content a h.1

-- What is accepted can be written.
abbrev Means : Read Task → Type 0
Means judging = (T : Task) (next : ℕ) → judging ≡ got T next → Writable T

task-means : (task : List ℕ) → Means (judged_task task)
task-means = task-accepted

partial-means : (out : Partial → ℕ → ℕ → Bool) (file : List ℕ) → Means (judged_partial out file)
partial-means out file T next e = (accepted-partial file out T next e).writable

-- ---- the checker: a number that has few digits

checks-as-fit : (kind : Kind) (judging : Read Task) → Means judging → (weights : List ℕ) (answer : Answer Verdict) → ChecksAs kind judging weights answer → Fits verdict_code answer
checks-as-fit kind judging means weights answer checks = by answer (checks-as-short kind judging means weights answer checks)
  where
    by : (answer : Answer Verdict) → Short answer → Fits verdict_code answer
    by (done accepted) short = omega arith
    by (done ends_alike) short = omega arith
    by (done (breaks j)) short = omega arith
    by (refused number) short = omega arith

-- Whichever kind the weights are.
pub checks-fit : (kind : Kind) (task weights : List ℕ) (answer : Answer Verdict) → ChecksAs kind (judged_task task) weights answer → Fits verdict_code answer
checks-fit kind task = checks-as-fit kind (judged_task task) (task-means task)

pub checks-partial-fit : (kind : Kind) (file weights : List ℕ) (answer : Answer Verdict) → ChecksAs kind (judged_partial left_out file) weights answer → Fits verdict_code answer
checks-partial-fit kind file = checks-as-fit kind (judged_partial left_out file) (partial-means left_out file)

-- ---- opening: the words due for a task within its limits

words-fit : (sizes : List ℕ) → InLimits sizes → words_due (length sizes) (features sizes) < value_end
words-fit sizes limits =
    let few : words_for (features sizes) ≤ words_for most_features = omega (arith, limits.total) in
    omega (arith, limits.variables.1, limits.total, mul-le-mul limits.total few)

opens-as-fit : (judging : Read Task) → Means judging → (room : List ℕ) (outcome : Outcome ℕ) → OpensAs judging room outcome → FitsIn length_code outcome
opens-as-fit judging means room =
    read-good (FitsIn length_code) judging _ (λ reason. refuses reason room)
    (λ T next e. if-good (FitsIn length_code) (ltb (length room) (words_due (length T.sizes) (features T.sizes))) _ _
    (is-good (FitsIn length_code) (refuses Small room) (refusal-fits Small))
    (λ o h. is-good (FitsIn length_code) _ (words-fit T.sizes (means T next e).acceptable.limits) o h.2))
    refusal-fits

pub opens-fit : (task room : List ℕ) (outcome : Outcome ℕ) → Opens task room outcome → FitsIn length_code outcome
opens-fit task = opens-as-fit (judged_task task) (task-means task)

pub opens-partial-fit : (file room : List ℕ) (outcome : Outcome ℕ) → OpensPartial file room outcome → FitsIn length_code outcome
opens-partial-fit file = opens-as-fit (judged_partial left_out file) (partial-means left_out file)

-- ---- finding and edits: no value but that of a refusal

found-fits : (c : Content) (room : List ℕ) (outcome : Outcome Finding) → FindsIn c room outcome → FitsIn finding_code outcome
found-fits c room o (inl h) = is-good (FitsIn finding_code) (writes none [] room) (omega arith) o h.1
found-fits c room o (inr h) = is-good (FitsIn finding_code) (writes separated (packed (features c.sizes) h.0) room) (omega arith) o h.2

pub finds-fit : (workspace room : List ℕ) (outcome : Outcome Finding) → Finds workspace room outcome → FitsIn finding_code outcome
finds-fit workspace room =
    formed-good (FitsIn finding_code) workspace (λ c. FindsBy c room) (refuses Malformed room)
    (λ c. if-good (FitsIn finding_code) (ltb (length room) (words_for (features c.sizes))) _ _
    (is-good (FitsIn finding_code) (refuses Small room) (refusal-fits Small)) (found-fits c room))
    (refusal-fits Malformed)

edited-fits : (judged : Judged) (workspace : List ℕ) (c : Content) (edit : Edit) (outcome : Outcome (Unit {0}))
    → EditsIn judged workspace c edit outcome → FitsIn edit_code outcome
edited-fits (faulty reason) workspace c edit o h = is-good (FitsIn edit_code) (refuses reason workspace) (refusal-fits reason) o h
edited-fits fine workspace c edit o h = is-good (FitsIn edit_code) (writes tt (words_of h.0) workspace) (omega arith) o h.2

pub edits-fit : (workspace : List ℕ) (edit : Edit) (outcome : Outcome (Unit {0})) → Edits workspace edit outcome → FitsIn edit_code outcome
edits-fit workspace edit =
    formed-good (FitsIn edit_code) workspace _ (refuses Malformed workspace) (λ c. edited-fits (edit_judged c edit) workspace c edit)
    (refusal-fits Malformed)

-- ---- building and silencing: a task file is not longer than its limits allow, and a partial one neither

delivered-fits : (file room : List ℕ) → length file < value_end → FitsIn length_code (delivered file room)
delivered-fits file room h = elim (test (ltb (length room) (length file))) [ on s ↦ rw s (refusal-fits Small) | off s ↦ rw s h ]

-- A call that writes the task file of a kind of what was read.
file-fits : {A : Type 0} (kind : Kind) (read : Read A) (task : A → Task) → ((a : A) (next : ℕ) → read ≡ got a next → Writable (task a)) → (room : List ℕ) (outcome : Outcome ℕ)
    → by_read read (λ a. outcome ≡ delivered (task_bytes_as kind (task a)) room) (λ reason. outcome ≡ refuses reason room) → FitsIn length_code outcome
file-fits kind read task writable room =
    read-good (FitsIn length_code) read _ (λ reason. refuses reason room)
    (λ a next e. is-good (FitsIn length_code) _ (delivered-fits (task_bytes_as kind (task a)) room (omega (arith, task-few kind (task a) (writable a next e)))))
    refusal-fits

pub builds-fit : (bay room : List ℕ) (outcome : Outcome ℕ) → Builds bay room outcome → FitsIn length_code outcome
builds-fit bay = file-fits plain (judged_bay bay) bay_task (λ b next e. bay-accepted bay b next e)

pub builds-partial-fit : (out : Partial → ℕ → ℕ → Bool) (file room : List ℕ) (outcome : Outcome ℕ) → BuildsBy out file room outcome → FitsIn length_code outcome
builds-partial-fit out file = file-fits plain (judged_partial out file) (λ T. T) (partial-means out file)

pub silences-fit : (task marks room : List ℕ) (outcome : Outcome ℕ) → Silences task marks room outcome → FitsIn length_code outcome
unfolding silenced
silences-fit task marks room =
    read-good (FitsIn length_code) (judged_task task) _ (λ reason. refuses reason room)
    (λ T next e. is-good (FitsIn length_code) _ (by T (task-means task T next e) (marks_judged T marks) refl))
    refusal-fits
  where
    by : (T : Task) → Writable T → (judged : Judged) → marks_judged T marks ≡ judged → FitsIn length_code (silences_by judged (silenced T marks) room)
    by T ok (faulty reason) e = refusal-fits reason
    by T ok fine e = delivered-fits (partial_bytes (silenced T marks)) room (omega (arith, partial-few (silenced T marks) (marks-ordered T marks ok.acceptable e) ok.countable))

-- ---- mending: the mended task can be written, and what is dropped is a weight list

pub mends-fit : (task room : List ℕ) (outcome : Outcome ℕ) → Mends task room outcome → FitsIn length_code outcome
mends-fit task room =
    read-good (FitsIn length_code) (task_of task 0) _ (λ reason. refuses reason room)
    (λ T next e o h. let writable = mended-writable T (read_known task T next e).1 h.0 h.1 in
    is-good (FitsIn length_code) _ (delivered-fits (task_bytes_as (kind_of task 0) (mended T h.0)) room (omega (arith, task-few (kind_of task 0) (mended T h.0) writable))) o h.2)
    refusal-fits

pub drops-fit : (task room : List ℕ) (outcome : Outcome ℕ) → Drops task room outcome → FitsIn length_code outcome
unfolding weight_bytes
drops-fit task room =
    read-good (FitsIn length_code) (task_of task 0) _ (λ reason. refuses reason room)
    (λ T next e o h. let few = run_length (atoms T.sizes) (features T.sizes) h.1 h.3.sublist.increasing in
    is-good (FitsIn length_code) _ (delivered-fits (weight_bytes h.1) room (omega (arith, list-few h.1, few, (read_known task T next e).1.limits.total))) o h.4)
    refusal-fits

fault-fits : (T : Task) (room : List ℕ) (outcome : Outcome PairFault) → FindsFault T room outcome → FitsIn fault_code outcome
fault-fits T room o (inl h) = is-good (FitsIn fault_code) (writes no_fault [] room) (omega arith) o h.1
fault-fits T room o (inr (inl h)) = is-good (FitsIn fault_code) (writes start_holds (h.0 ∷ []) room) (omega arith) o h.2
fault-fits T room o (inr (inr h)) = is-good (FitsIn fault_code) (writes operator_breaks (h.0 ∷ h.1 ∷ []) room) (omega arith) o h.3

pub faults-fit : (task room : List ℕ) (outcome : Outcome PairFault) → FaultsPairs task room outcome → FitsIn fault_code outcome
faults-fit task room =
    read-good (FitsIn fault_code) (task_of task 0) _ (λ reason. refuses reason room)
    (λ T next e. if-good (FitsIn fault_code) (ltb (length room) fault_words) _ _ (is-good (FitsIn fault_code) (refuses Small room) (refusal-fits Small)) (fault-fits T room))
    refusal-fits

-- ---- converting: into either kind

pub converts-fit : (kind : Kind) (task room : List ℕ) (outcome : Outcome ℕ) → Converts kind task room outcome → FitsIn length_code outcome
converts-fit kind task = file-fits kind (judged_as (other kind) task) (λ T. T) (λ T next e. (accepted-as task (other kind) T next e).1)

pub converts-weights-fit : (kind : Kind) (task weights room : List ℕ) (outcome : Outcome ℕ) → ConvertsWeights kind task weights room outcome → FitsIn length_code outcome
converts-weights-fit kind task weights room =
    let bad : Reason → Outcome ℕ = λ reason. refuses reason room in
    read-good (FitsIn length_code) (judged_task task) _ bad
    (λ T next e. read-good (FitsIn length_code) (judged_weights_as (other kind) (features T.sizes) weights) _ bad
    (λ ws end q. let n = features T.sizes in
    is-good (FitsIn length_code) _ (delivered-fits (weight_bytes_as kind ws) room (omega (arith, weights-few kind 0 n ws (task-means task T next e).acceptable.limits.total (weights-accepted-as weights (other kind) n ws end q)))))
    refusal-fits)
    refusal-fits

-- ---- the lines: they are short

pub lines_fit : (input room : List ℕ) (outcome : Outcome ℕ) → Lines input room outcome → FitsIn length_code outcome
lines_fit input room o (answer, prints, e) =
    is-good (FitsIn length_code) _ (delivered-fits (line (printed_spot input) answer) room (omega (arith, line-short input answer prints))) o e

-- Files that are no longer than any slice.
abbrev pub Slices : List ℕ → List ℕ → Type 0
Slices task weights = (length task < 10 ^ place_digits) × (length weights < 10 ^ place_digits)

pub verdict-lines-fit : (task weights room : List ℕ) → Slices task weights → (outcome : Outcome ℕ) → VerdictLines task weights room outcome → FitsIn length_code outcome
verdict-lines-fit task weights room few o (answer, checks, e) =
    is-good (FitsIn length_code) _ (delivered-fits (verdict_line (checked_spot task weights) answer) room (omega (arith, line-few task weights few.0 few.1 answer checks))) o e

-- ---- display: which file holds the part

pub displays-fit : (part : Part) (room : List ℕ) (outcome : Outcome Holder) → outcome ≡ displayed part room → FitsIn holder_code outcome
displays-fit part room = is-good (FitsIn holder_code) (displayed part room) (by (ltb (length room) place_words) part)
  where
    by : (short : Bool) (part : Part) → FitsIn holder_code (cond short (refuses Small room) (writes (holder_of part) (part_words part) room))
    by true part = refusal-fits Small
    by false (of_task place many) = omega arith
    by false (of_weights place many) = omega arith

-- ---- a weight file: it has at most as many features as there are

pub writes-fit : (weights room : List ℕ) (outcome : Outcome ℕ) → Writes weights room outcome → FitsIn length_code outcome
writes-fit weights room o e = is-good (FitsIn length_code) (weights_written weights room) (by (weights_judged 0 weights) refl) o e
  where
    by : (judged : Judged) → weights_judged 0 weights ≡ judged → FitsIn length_code (weights_written weights room)
    by (faulty reason) j = rw (weights-refused weights room reason j) (refusal-fits reason)
    by fine j = rw (weights-delivered weights room j) (delivered-fits (weight_bytes weights) room (omega (arith, fine-few weights j)))

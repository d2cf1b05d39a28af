-- When each call refuses: what is judged first, and that a refusal with a number is the outcome exactly where the first fault has that number, and
-- hands back all that was lent as it came.
use Rattle.std.specs.Prelude.{ℕ, ◌≡◌, refl, ◌⊎◌, ◌↔◌, cond, List, leb, ltb, length}
use Rattle.std.proofs.Common.{ap, ◌∙◌, subst, inl, inr, arith, ltb-true, ltb-false, le-leb}
use Rattle.std.proofs.lemmas.Bool.{lt-leb}
use Rattle.meaning.specs.Limits.{most_input, most_program_features, fault_words, place_words}
use Rattle.meaning.specs.Task.{Task}
use Rattle.meaning.specs.Feature.{features}
use Rattle.meaning.specs.Number.{Reason, Small, Malformed, refusal, Read, got, fault}
use Rattle.meaning.specs.File.{Kind, other, kind_of, task_of, judged_task, judged_weights_as, weight_bytes, weight_bytes_as, task_bytes_as}
use Rattle.meaning.specs.Workspace.{Content, words_for, words_due, WellFormed}
use Rattle.meaning.specs.Answer.{Answer, done, refused, Outcome, refuses, writes, delivered, by_read, Verdict, ChecksAs, OpensAs}
use Rattle.meaning.specs.Answer.{FindsIn, FindsBy, Finds, Judged, fine, faulty, need, Edit, edit_judged, EditsIn, Edits}
use Rattle.meaning.specs.Partial.{Partial, partial_bytes, silenced, marks_judged, silences_by, Silences}
use Rattle.meaning.specs.Mend.{Largest, Dropped, mended, Mends, Drops, FindsFault, FaultsPairs}
use Rattle.meaning.specs.Convert.{ConvertsWeights}
use Rattle.meaning.specs.Place.{Part, holder_of, part_words, displayed}
use Rattle.meaning.specs.Line.{Found, Seeks, too_large, Prints}
use Rattle.theory.specs.Truth.{on, off, test}
use Rattle.theory.specs.Operands.{unless}
use Rattle.theory.specs.Determined.{AtMostOne, opens-only, checks-only, writes-only}

-- ---- what is judged, in order

-- A file first, then what comes after it.
abbrev pub file_judged : {A : Type 0} → Read A → (A → Judged) → Judged
file_judged (got a next) rest = rest a
file_judged (fault reason place) rest = faulty reason

-- "Room is too small when it is shorter than what is due."
abbrev pub room_judged : ℕ → List ℕ → Judged
room_judged due room = need (leb due (length room)) Small fine

-- "Then come 5, 6, 7 by operator, 8": the whole workspace is due, whatever file the task was read from.
abbrev pub open_judged : Read Task → List ℕ → Judged
open_judged judged room = file_judged judged (λ T. room_judged (words_due (length T.sizes) (features T.sizes)) room)

-- "Weights are read after a fully accepted task."
abbrev pub check_judged : Kind → Read Task → List ℕ → Judged
check_judged kind judged weights = file_judged judged (λ T. file_judged (judged_weights_as kind (features T.sizes) weights) (λ _. fine))

-- A file, then the room: "all bytes of the file" that is written for what was read are due.
abbrev pub build_judged : {A : Type 0} → Read A → (A → List ℕ) → List ℕ → Judged
build_judged read file room = file_judged read (λ a. room_judged (length (file a)) room)

-- The task wholly, then the marks, then the room.
abbrev pub silence_judged : List ℕ → List ℕ → List ℕ → Judged
silence_judged task marks room =
    file_judged (judged_task task)
    (λ T. unless (marks_judged T marks) (room_judged (length (partial_bytes (silenced T marks))) room))

-- The task wholly, then the weights, then the room: the weight file of the other kind is due.
abbrev pub convert_weights_judged : Kind → List ℕ → List ℕ → List ℕ → Judged
convert_weights_judged kind task weights room =
    file_judged (judged_task task)
    (λ T. build_judged (judged_weights_as (other kind) (features T.sizes) weights) (weight_bytes_as kind) room)

-- pair_fault: the task up to 5, then two words.
abbrev pub fault_judged : List ℕ → List ℕ → Judged
fault_judged task room = file_judged (task_of task 0) (λ T. room_judged fault_words room)

-- "W words for a finder's answer even where that is 'none'".
abbrev pub find_judged : List ℕ → Content → Judged
find_judged room c = room_judged (words_for (features c.sizes)) room

-- "More than 8,192 bytes give 8 before anything is judged; more than 640 features give 8 after 7."
abbrev pub print_judged : List ℕ → Judged
print_judged input =
    need (leb (length input) most_input) Small
    (file_judged (judged_task input) (λ T. need (leb (features T.sizes) most_program_features) Small fine))

-- What is found faulty has a number.
abbrev pub Faulty : Judged → ℕ → Type 0
Faulty fine n = ⊥
Faulty (faulty reason) n = n ≡ refusal reason

-- "A workspace call judges 9, then its operand, then 8."
abbrev pub FaultyIn : List ℕ → (Content → Judged) → ℕ → Type 0
FaultyIn workspace judged n =
    ((WellFormed workspace → ⊥) × (n ≡ refusal Malformed))
    ⊎ ((formed : WellFormed workspace) × Faulty (judged formed.content) n)

-- mend: the task up to 5, then the file of the task with what is kept.
abbrev pub FaultyMend : List ℕ → List ℕ → ℕ → Type 0
FaultyMend task room n =
    by_read (task_of task 0)
    (λ T. (kept : List ℕ) × Largest T kept × Faulty (room_judged (length (task_bytes_as (kind_of task 0) (mended T kept))) room) n)
    (λ reason. n ≡ refusal reason)

-- dropped: the task up to 5, then the list of what is not kept.
abbrev pub FaultyDrop : List ℕ → List ℕ → ℕ → Type 0
FaultyDrop task room n =
    by_read (task_of task 0)
    (λ T. (kept : List ℕ)
    × (dropped : List ℕ)
    × Largest T kept
    × Dropped T kept dropped
    × Faulty (room_judged (length (weight_bytes dropped)) room) n)
    (λ reason. n ≡ refusal reason)

-- ---- when a call refuses

-- A call that is lent memory refuses with a number exactly where a fault has it; the refusal changes nothing that was lent.
pub record RefusesExactly {A : Type 0} (Allowed : Outcome A → Type 0) (lent : List ℕ) (Fault : ℕ → Type 0) : Type 0 where
  pub exactly : (outcome : Outcome A) → Allowed outcome → (n : ℕ) → (outcome.answer ≡ refused n) ↔ Fault n
  pub unchanged : (outcome : Outcome A) → Allowed outcome → (n : ℕ) → outcome.answer ≡ refused n → outcome.lent ≡ lent
  pub allowed : (n : ℕ) → Fault n → Allowed (record { answer = refused n; lent = lent })

-- From which refusals are allowed, where one outcome is.
pub refuses-exactly : {A : Type 0} {Allowed : Outcome A → Type 0} {lent : List ℕ} {Fault : ℕ → Type 0} → AtMostOne Allowed
    → ((n : ℕ) (left : List ℕ) → Allowed (record { answer = refused n; lent = left }) ↔ (Fault n × (left ≡ lent))) → RefusesExactly Allowed lent Fault
refuses-exactly {A = A} {Allowed = Allowed} {lent = lent} {Fault = Fault} only h = record {
  exactly = λ outcome a n. (λ e. (as-refused outcome a n e).0, λ f. ap (λ o. o.answer) (only outcome _ a ((h n lent).1 (f, refl))));
  unchanged = λ outcome a n e. (as-refused outcome a n e).1;
  allowed = λ n f. (h n lent).1 (f, refl);
}
  where
    as-refused : (outcome : Outcome A) → Allowed outcome → (n : ℕ) → outcome.answer ≡ refused n → Fault n × (outcome.lent ≡ lent)
    as-refused outcome a n e = (h n outcome.lent).0 (subst (λ answer. Allowed (record { answer = answer; lent = outcome.lent })) e a)

-- The same of a call that is lent nothing to write.
pub answers-exactly : {A : Type 0} {Allowed : Answer A → Type 0} {Fault : ℕ → Type 0} → AtMostOne Allowed → ((n : ℕ) → Allowed (refused n) ↔ Fault n)
    → (answer : Answer A) → Allowed answer → (n : ℕ) → (answer ≡ refused n) ↔ Fault n
answers-exactly {Allowed = Allowed} only h answer a n = (λ e. (h n).0 (subst Allowed e a), λ f. only answer (refused n) a ((h n).1 f))

-- ---- one refusal

module _ {A : Type 0} (n : ℕ) (left : List ℕ) where
  refusal-alike : (lent : List ℕ) (reason : Reason) → (◌≡◌ {A = Outcome A} (record { answer = refused n; lent = left }) (refuses reason lent)) ↔ ((n ≡ refusal reason) × (left ≡ lent))
  refusal-alike lent reason = (
    λ e. let q : ◌≡◌ {A = Answer A} (refused n) (refused (refusal reason)) = ap (λ o. o.answer) e in (cc, ap (λ o. o.lent) e),
    λ h. λ i. record { answer = refused (h.0 i); lent = h.1 i },
  )

  -- A refusal is no other result.
  not_done : (outcome : Outcome A) (result : A) → outcome.answer ≡ done result → record { answer = refused n; lent = left } ≡ outcome → ⊥
  not_done outcome result d e = let q : ◌≡◌ {A = Answer A} (refused n) (done result) = ap (λ o. o.answer) e ∙ d in let z : ◌≡◌ {A = ℕ} 0 1 = cc in omega arith

-- Room is judged: too small, or a call that is done.
room-refused : (n : ℕ) (left lent : List ℕ) (due : ℕ) (Bad Done : Type 0) → Bad ↔ ((n ≡ refusal Small) × (left ≡ lent)) → (Done → ⊥)
    → cond (ltb (length lent) due) Bad Done ↔ (Faulty (room_judged due lent) n × (left ≡ lent))
room-refused n left lent due Bad Done bad undone = elim (test (ltb (length lent) due)) [
  | on p ↦ rw (p, lt-leb due (length lent) (ltb-true _ _ p)) bad
  | off p ↦ rw (p, le-leb due (length lent) (ltb-false _ _ p)) (λ h. absurd (undone h), λ h. absurd h.0)
]

-- What is read decides, or what is judged after it.
read-refused : {A : Type 0} (read : Read A) (Good : A → Type 0) (Bad : Reason → Type 0) (rest : A → Judged) (Refused : Judged → Type 0)
    → ((a : A) → Good a ↔ Refused (rest a)) → ((reason : Reason) → Bad reason ↔ Refused (faulty reason)) → by_read read Good Bad ↔ Refused (file_judged read rest)
read-refused (got a next) Good Bad rest Refused good bad = good a
read-refused (fault reason place) Good Bad rest Refused good bad = bad reason

-- ---- which refusals each call's relation allows

module _ (n : ℕ) (left : List ℕ) where
  pub opens-refused : (judged : Read Task) (room : List ℕ) → OpensAs judged room (record { answer = refused n; lent = left }) ↔ (Faulty (open_judged judged room) n × (left ≡ room))
  opens-refused judged room = read-refused judged _ _ _ (λ first. Faulty first n × (left ≡ room))
      (λ T. room-refused n left room (words_due (length T.sizes) (features T.sizes)) _ _ (refusal-alike n left room Small) (λ h. not_done n left _ _ refl h.2))
      (refusal-alike n left room)

  -- A call that writes a file.
  pub delivered-refused : (file room : List ℕ) → (record { answer = refused n; lent = left } ≡ delivered file room) ↔ (Faulty (room_judged (length file) room) n × (left ≡ room))
  delivered-refused file room = elim (test (ltb (length room) (length file))) [
    | on p ↦ rw (p, lt-leb (length file) (length room) (ltb-true _ _ p)) (refusal-alike n left room Small)
    | off p ↦ rw (p, le-leb (length file) (length room) (ltb-false _ _ p)) (λ h. absurd (not_done n left (writes (length file) file room) (length file) refl h), λ h. absurd h.0)
  ]

  -- A call that shows a part of a file.
  pub displayed-refused : (part : Part) (room : List ℕ) → (record { answer = refused n; lent = left } ≡ displayed part room) ↔ (Faulty (room_judged place_words room) n × (left ≡ room))
  displayed-refused part room = elim (test (ltb (length room) place_words)) [
    | on p ↦ rw (p, lt-leb place_words (length room) (ltb-true _ _ p)) (refusal-alike n left room Small)
    | off p ↦ rw (p, le-leb place_words (length room) (ltb-false _ _ p)) (λ h. absurd (not_done n left (writes (holder_of part) (part_words part) room) (holder_of part) refl h), λ h. absurd h.0)
  ]

  pub builds-refused : {A : Type 0} (read : Read A) (file : A → List ℕ) (room : List ℕ)
      → by_read read (λ a. record { answer = refused n; lent = left } ≡ delivered (file a) room) (λ reason. record { answer = refused n; lent = left } ≡ refuses {A = ℕ} reason room)
      ↔ (Faulty (build_judged read file room) n × (left ≡ room))
  builds-refused read file room = read-refused read _ _ _ (λ first. Faulty first n × (left ≡ room)) (λ a. delivered-refused (file a) room) (refusal-alike n left room)

  pub silences-refused : (task marks room : List ℕ) → Silences task marks room (record { answer = refused n; lent = left }) ↔ (Faulty (silence_judged task marks room) n × (left ≡ room))
  silences-refused task marks room = read-refused (judged_task task) _ _ _ (λ first. Faulty first n × (left ≡ room))
      (λ T. marked (marks_judged T marks) (silenced T marks)) (refusal-alike n left room)
    where
      marked : (judged : Judged) (P : Partial) → (record { answer = refused n; lent = left } ≡ silences_by judged P room)
          ↔ (Faulty (unless judged (room_judged (length (partial_bytes P)) room)) n × (left ≡ room))
      marked fine P = delivered-refused (partial_bytes P) room
      marked (faulty reason) P = refusal-alike n left room reason

  pub converts-weights-refused : (kind : Kind) (task weights room : List ℕ)
      → ConvertsWeights kind task weights room (record { answer = refused n; lent = left }) ↔ (Faulty (convert_weights_judged kind task weights room) n × (left ≡ room))
  converts-weights-refused kind task weights room = read-refused (judged_task task) _ _ _ (λ first. Faulty first n × (left ≡ room))
      (λ T. builds-refused (judged_weights_as (other kind) (features T.sizes) weights) (weight_bytes_as kind) room) (refusal-alike n left room)

  -- What was read decides, or what was found for it.
  found-refused : {A : Type 0} (read : Read A) (room : List ℕ) (Good Fault : A → Type 0) (Bad : Reason → Type 0) → ((a : A) → Good a ↔ (Fault a × (left ≡ room)))
      → ((reason : Reason) → Bad reason ↔ ((n ≡ refusal reason) × (left ≡ room))) → by_read read Good Bad ↔ (by_read read Fault (λ reason. n ≡ refusal reason) × (left ≡ room))
  found-refused (got a next) room Good Fault Bad good bad = good a
  found-refused (fault reason place) room Good Fault Bad good bad = bad reason

  pub mends-refused : (task room : List ℕ) → Mends task room (record { answer = refused n; lent = left }) ↔ (FaultyMend task room n × (left ≡ room))
  mends-refused task room = found-refused (task_of task 0) room _ _ _
      (λ T. (
        λ h. let (f, q) = (delivered-refused (task_bytes_as (kind_of task 0) (mended T h.0)) room).0 h.2 in ((h.0, h.1, f), q),
        λ h. (h.0.0, h.0.1, (delivered-refused (task_bytes_as (kind_of task 0) (mended T h.0.0)) room).1 (h.0.2, h.1)),
      ))
      (refusal-alike n left room)

  pub drops-refused : (task room : List ℕ) → Drops task room (record { answer = refused n; lent = left }) ↔ (FaultyDrop task room n × (left ≡ room))
  drops-refused task room = found-refused (task_of task 0) room _ _ _
      (λ T. (
        λ h. let (f, q) = (delivered-refused (weight_bytes h.1) room).0 h.4 in ((h.0, h.1, h.2, h.3, f), q),
        λ h. (h.0.0, h.0.1, h.0.2, h.0.3, (delivered-refused (weight_bytes h.0.1) room).1 (h.0.4, h.1)),
      ))
      (refusal-alike n left room)

  no-fault : (T : Task) (room : List ℕ) → FindsFault T room (record { answer = refused n; lent = left }) → ⊥
  no-fault T room (inl h) = not_done n left _ _ refl h.1
  no-fault T room (inr (inl h)) = not_done n left _ _ refl h.2
  no-fault T room (inr (inr h)) = not_done n left _ _ refl h.3

  pub faults-refused : (task room : List ℕ) → FaultsPairs task room (record { answer = refused n; lent = left }) ↔ (Faulty (fault_judged task room) n × (left ≡ room))
  faults-refused task room = read-refused (task_of task 0) _ _ _ (λ first. Faulty first n × (left ≡ room))
      (λ T. room-refused n left room fault_words _ _ (refusal-alike n left room Small) (no-fault T room)) (refusal-alike n left room)

  -- A workspace that is not well formed, or what its content decides.
  formed-refused : {A : Type 0} (workspace lent : List ℕ) (By : Content → Outcome A → Type 0) (judged : Content → Judged)
      → ((c : Content) → By c (record { answer = refused n; lent = left }) ↔ (Faulty (judged c) n × (left ≡ lent)))
      → (((WellFormed workspace → ⊥) × (◌≡◌ {A = Outcome A} (record { answer = refused n; lent = left }) (refuses Malformed lent)))
      ⊎ ((formed : WellFormed workspace) × By formed.content (record { answer = refused n; lent = left })))
      ↔ (FaultyIn workspace judged n × (left ≡ lent))
  formed-refused workspace lent By judged by = (
    λ h. elim h [
      | inl k ↦ let (e, q) = (refusal-alike n left lent Malformed).0 k.1 in (inl (k.0, e), q)
      | inr k ↦ let (f, q) = (by k.0.content).0 k.1 in (inr (k.0, f), q)
    ],
    λ h. elim h.0 [
      | inl k ↦ inl (k.0, (refusal-alike n left lent Malformed).1 (k.1, h.1))
      | inr k ↦ inr (k.0, (by k.0.content).1 (k.1, h.1))
    ],
  )

  not_found : (c : Content) (room : List ℕ) → FindsIn c room (record { answer = refused n; lent = left }) → ⊥
  not_found c room (inl h) = not_done n left _ _ refl h.1
  not_found c room (inr h) = not_done n left _ _ refl h.2

  pub finds-refused : (workspace room : List ℕ) → Finds workspace room (record { answer = refused n; lent = left }) ↔ (FaultyIn workspace (find_judged room) n × (left ≡ room))
  finds-refused workspace room = formed-refused workspace room (λ c. FindsBy c room) (find_judged room)
      (λ c. room-refused n left room (words_for (features c.sizes)) _ _ (refusal-alike n left room Small) (not_found c room))

  operand-refused : (workspace : List ℕ) (edit : Edit) (c : Content) (judged : Judged)
      → EditsIn judged workspace c edit (record { answer = refused n; lent = left }) ↔ (Faulty judged n × (left ≡ workspace))
  operand-refused workspace edit c fine = (λ h. absurd (not_done n left _ _ refl h.2), λ h. absurd h.0)
  operand-refused workspace edit c (faulty reason) = refusal-alike n left workspace reason

  pub edits-refused : (workspace : List ℕ) (edit : Edit)
      → Edits workspace edit (record { answer = refused n; lent = left }) ↔ (FaultyIn workspace (λ c. edit_judged c edit) n × (left ≡ workspace))
  edits-refused workspace edit = formed-refused workspace workspace (λ c. EditsIn (edit_judged c edit) workspace c edit) (λ c. edit_judged c edit)
      (λ c. operand-refused workspace edit c (edit_judged c edit))

-- ---- calls that are lent nothing to write

module _ {A : Type 0} (n : ℕ) where
  number-alike : (reason : Reason) → (◌≡◌ {A = Answer A} (refused n) (refused (refusal reason))) ↔ (n ≡ refusal reason)
  number-alike reason = (λ e. cc, λ e. ap refused e)

  no_result : (a : A) → ◌≡◌ {A = Answer A} (refused n) (done a) → ⊥
  no_result a e = let z : ◌≡◌ {A = ℕ} 0 1 = cc in omega arith

pub checks-refused : (n : ℕ) (kind : Kind) (judged : Read Task) (weights : List ℕ) → ChecksAs kind judged weights (refused n) ↔ Faulty (check_judged kind judged weights) n
checks-refused n kind judged weights = read-refused judged _ _ _ (λ first. Faulty first n)
    (λ T. read-refused (judged_weights_as kind (features T.sizes) weights) _ _ _ (λ first. Faulty first n) (λ ws. (λ h. absurd (no_result n h.0 h.1), λ h. absurd h)) (number-alike n))
    (number-alike n)

pub prints-refused : (n : ℕ) (input : List ℕ) → Prints input (refused n) ↔ Faulty (print_judged input) n
prints-refused n input = elim (test (ltb most_input (length input))) [
  | on p ↦ rw (p, lt-leb (length input) most_input (ltb-true _ _ p)) (number-alike n Small)
  | off p ↦ rw (p, le-leb (length input) most_input (ltb-false _ _ p)) (judged (judged_task input))
]
  where
    judged : (read : Read Task)
        → cond (too_large read) (◌≡◌ {A = Answer Found} (refused n) (refused (refusal Small)))
        (by_read read (λ T. (found : Found) × (◌≡◌ {A = Answer Found} (refused n) (done found)) × Seeks T found) (λ reason. ◌≡◌ {A = Answer Found} (refused n) (refused (refusal reason))))
        ↔ Faulty (file_judged read (λ T. need (leb (features T.sizes) most_program_features) Small fine)) n
    judged (fault reason place) = number-alike n reason
    judged (got T next) = elim (test (ltb most_program_features (features T.sizes))) [
      | on p ↦ rw (p, lt-leb (features T.sizes) most_program_features (ltb-true _ _ p)) (number-alike n Small)
      | off p ↦ rw (p, le-leb (features T.sizes) most_program_features (ltb-false _ _ p)) (λ h. absurd (no_result n h.0 h.1), λ h. absurd h)
    ]

-- ---- calls that serve several kinds of file

pub opens-exactly : (judged : Read Task) (room : List ℕ) → RefusesExactly (OpensAs judged room) room (Faulty (open_judged judged room))
opens-exactly judged room = refuses-exactly (opens-only judged room) (λ n left. opens-refused n left judged room)

pub checks-exactly : (kind : Kind) (judged : Read Task) (weights : List ℕ) (answer : Answer Verdict) → ChecksAs kind judged weights answer
    → (n : ℕ) → (answer ≡ refused n) ↔ Faulty (check_judged kind judged weights) n
checks-exactly kind judged weights = answers-exactly (checks-only kind judged weights) (λ n. checks-refused n kind judged weights)

pub builds-exactly : {A : Type 0} (read : Read A) (file : A → List ℕ) (room : List ℕ)
    → RefusesExactly (λ outcome. by_read read (λ a. outcome ≡ delivered (file a) room) (λ reason. outcome ≡ refuses reason room)) room (Faulty (build_judged read file room))
builds-exactly read file room = refuses-exactly (writes-only read (λ a. delivered (file a) room) room) (λ n left. builds-refused n left read file room)

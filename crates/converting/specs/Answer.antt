-- What the converters answer for a task file that was accepted, by its header and its operators, and for weights that were read.
use Rattle.std.specs.Prelude.{ℕ, ◌<◌, ◌≤◌, ◌≡◌, refl, Bool, true, false, not, List, length, drop, Err}
use Rattle.std.proofs.Common.{ap, ◌∙◌, arith}
use Rattle.meaning.specs.Sets.{listed}
use Rattle.meaning.specs.Limits.{most_features, number_end}
use Rattle.meaning.specs.Task.{Task}
use Rattle.meaning.specs.Feature.{atoms, features}
use Rattle.meaning.specs.Number.{got}
use Rattle.meaning.specs.File.{Kind, kind_if, other, judged_task, judged_as, judged_weights_as, Writable, weight_bytes_as}
use Rattle.meaning.specs.Workspace.{has}
use Rattle.meaning.specs.Answer.{Outcome, refuses, delivered, by_read}
use Rattle.meaning.specs.Convert.{Converts, ConvertsWeights}
use Rattle.theory.specs.Words.{length-packed}
use Rattle.theory.specs.Spent.{Bytes}
use Rattle.theory.specs.Parts.{operators-said}
use Rattle.theory.specs.PartialParts.{operators-copied}
use Rattle.theory.specs.Accepted.{writable-readable, accepted-as, weights-accepted-as}
use Rattle.number.specs.Answers.{faulted}
use Rattle.number.specs.declared.Fault.{Fault}
use Rattle.words.specs.Members.{members_in, members-are, run-has}
use Rattle.layout.specs.Parts.{Headed, sizes_part, start_part, goal_part, pairs_part}
use Rattle.reader.specs.Answer.{feature_words}
use Rattle.task.specs.Header.{readable-headed}
use Rattle.task.specs.Answer.{AcceptedAs, KnownAs, HeaderLeft, left-room, left-parts, left-ready}
use Rattle.writer.specs.Answer.{outcome_of}
use Rattle.writer.specs.Parts.{FewWords}
use Rattle.writer.specs.Front.{Front, parts-front}
use Rattle.writer.specs.TaskFile.{file_bytes, task-file}

-- The kind that is due.
pub due-kind : (gapped : Bool) → kind_if (not gapped) ≡ other (kind_if gapped)
due-kind true = refl
due-kind false = refl

-- ---- a task file that was accepted as of the other kind

module _ (kind : Kind) {bytes words left : List ℕ} {v n count at : ℕ} (known : AcceptedAs (judged_as (other kind) bytes) bytes words left v n count at) where
  abbrev T : Task
  T = known.task

  end : known.next ≡ length bytes
  end = (accepted-as bytes (other kind) T known.next known.judged).0

  writable : Writable T
  writable = (accepted-as bytes (other kind) T known.next known.judged).1

  header-left : HeaderLeft T words left v n
  header-left = record { headed = readable-headed T (writable-readable T writable).0; variables = known.variables; total = known.total; header = known.header }

  pub headed : Headed v n left
  headed = left-room header-left

  -- The operators begin within the file.
  pub at-within : at ≤ length bytes
  at-within = omega (arith, ((operators-said bytes T.sizes count).gives at T.operators known.next known.operators).moved, end)

  -- By its sizes, start, goal and pairs, as they are lent.
  module _ (sizes start goal pairs : List ℕ) (sizes-are : sizes ≡ sizes_part v left) (start_is : start ≡ start_part v left) (goal-is : goal ≡ goal_part v left)
      (pairs-are : pairs ≡ pairs_part v n left) where
    pub lent-front : Front sizes start goal pairs × (count < number_end)
    lent-front =
        let (Listed-in, begins, ends) = left-ready header-left in
        rw (sizes-are, start_is, goal-is, pairs-are) (
          parts-front (sizes_part v left) (start_part v left) (goal_part v left) (pairs_part v n left) Listed-in.limits begins ends Listed-in.due,
          omega (arith, known.many, writable.countable),
        )

    pairs-members : members_in pairs ≡ T.pairs
    pairs-members = members-are (atoms T.sizes) (features T.sizes) T.pairs pairs writable.acceptable.pairs (ap has pairs-are ∙ (left-parts header-left).3)

    -- What the code comes to is the task's file of the kind.
    pub converts-so : Bytes bytes → (own room : List ℕ) (outcome : Outcome ℕ) → own ≡ drop at bytes → outcome ≡ delivered (file_bytes kind count own sizes start goal pairs) room
        → Converts kind bytes room outcome
    converts-so small own room outcome q e =
        let parts = left-parts header-left in
        let copied = operators-copied bytes T.sizes count at T.operators known.next small known.operators (omega (arith, end)) in
        rw known.judged (rw (q, sizes-are ∙ parts.0, start_is ∙ parts.1, goal-is ∙ parts.2) at e
        ∙ ap (λ file. delivered file room) (task-file kind T count (drop at bytes) pairs known.many copied pairs-members))

-- A task that is refused.
pub convert-refused : (kind : Kind) (bytes room : List ℕ) (f : Fault) → judged_as (other kind) bytes ≡ faulted f → Converts kind bytes room (outcome_of (Err f.0) room)
convert-refused kind bytes room f e = rw e

-- ---- weights

-- What is answered for weights over n features: their file of a kind, where they were read as the other.
abbrev pub WeightsBy : Kind → ℕ → List ℕ → List ℕ → Outcome ℕ → Type 0
WeightsBy kind n weights room outcome =
    by_read (judged_weights_as (other kind) n weights) (λ ws. outcome ≡ delivered (weight_bytes_as kind ws) room) (λ reason. outcome ≡ refuses reason room)

-- The words of weights that were read are few, and have them as members.
pub words-few : (n : ℕ) (ws left : List ℕ) → n ≤ most_features → left ≡ feature_words n ws → FewWords left
words-few n ws left few e = omega (arith, ap length e, length-packed n (listed ws))

module _ (kind : Kind) (n : ℕ) (weights room : List ℕ) where
  pub list-delivered : (ws : List ℕ) (next : ℕ) (left : List ℕ) (outcome : Outcome ℕ) → judged_weights_as (other kind) n weights ≡ got ws next → left ≡ feature_words n ws
      → outcome ≡ delivered (weight_bytes_as kind (members_in left)) room → WeightsBy kind n weights room outcome
  list-delivered ws next left outcome read held e =
      let run = weights-accepted-as weights (other kind) n ws next read in
      rw read (e ∙ ap (λ l. delivered (weight_bytes_as kind l) room) (members-are 0 n ws left run (ap has held ∙ run-has 0 n ws run)))

  pub list-refused : (f : Fault) → judged_weights_as (other kind) n weights ≡ faulted f → WeightsBy kind n weights room (outcome_of (Err f.0) room)
  list-refused f e = rw e

-- Beside a task that was accepted, and one that is refused.
pub weights-beside : (kind : Kind) (bytes : List ℕ) {words left : List ℕ} {v n : ℕ} → KnownAs (judged_task bytes) words left v n → (weights room : List ℕ) (outcome : Outcome ℕ)
    → WeightsBy kind n weights room outcome → ConvertsWeights kind bytes weights room outcome
weights-beside kind bytes known weights room outcome h = rw (known.judged, ← known.total) h

pub weights-task-refused : (kind : Kind) (bytes weights room : List ℕ) (f : Fault) → judged_task bytes ≡ faulted f → ConvertsWeights kind bytes weights room (outcome_of (Err f.0) room)
weights-task-refused kind bytes weights room f e = rw e

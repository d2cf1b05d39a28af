-- The numbers of the checker's answers are short, every line of it fits into so many bytes, and every weight file that gets a verdict is short enough for the program.
use Rattle.std.specs.Prelude.{ℕ, ◌^◌, ◌<◌, ◌≤◌, ◌≡◌, refl, Bool, true, false, cond, List, [], ◌∷◌, length}
use Rattle.std.proofs.Common.{ap, arith, length-append}
use Rattle.meaning.specs.Limits.{number_end, most_weights}
use Rattle.meaning.specs.Sets.{Set, listed}
use Rattle.meaning.specs.Task.{Task}
use Rattle.meaning.specs.Feature.{features}
use Rattle.meaning.specs.Number.{Reason, Small, refusal, Read, got}
use Rattle.meaning.specs.File.{Kind, plain, judged_task, judged_weights_as, judged_weights, Writable, weight_bytes, list_bytes}
use Rattle.meaning.specs.Answer.{Answer, done, refused, Outcome, writes, Verdict, accepted, ends_alike, breaks, Judges, ChecksAs, Checks}
use Rattle.meaning.specs.Place.{Spot, nowhere}
use Rattle.meaning.specs.Line.{word, file_text, refused_line, too_long, ChecksFiles, checked_spot, files_spot, verdict_line}
use Rattle.theory.specs.Accepted as theory
use Rattle.theory.specs.Shown.{spot-within}
use Rattle.theory.specs.Spent.{Bytes}
use Rattle.writer.specs.Longest.{pairs-few}
use Rattle.decimal.specs.Decimal.{word-few}
use Rattle.text.specs.Allowed.{is-good, read-good}
use Rattle.text.specs.Answer.{line-of-written}
use Rattle.text.specs.Parts.{most_digits, place_digits, refused_bytes, ShortSpot, spot-short, refused-few, refusal-short}
use Rattle.verdicts.specs.Answer.{VerdictLines, FileLines}

-- ---- numbers

-- The number of an answer, if it has one, has few enough digits for a line.
abbrev pub Short : Answer Verdict → Type 0
Short (done accepted) = Unit {0}
Short (done ends_alike) = Unit {0}
Short (done (breaks j)) = j < 10 ^ most_digits
Short (refused number) = number < 10 ^ most_digits

-- An operator's number is below what a file can count.
verdict-short : (T : Task) (weights : Set) (v : Verdict) → length T.operators < number_end → Judges T weights v → Short (done v)
verdict-short T weights accepted few h = tt
verdict-short T weights ends_alike few h = tt
verdict-short T weights (breaks j) few h = omega (arith, h.counted)

-- Whatever judged the task, if what is accepted can be written; weights of either kind.
pub checks-as-short : (kind : Kind) (judging : Read Task) → ((T : Task) (next : ℕ) → judging ≡ got T next → Writable T) → (weights : List ℕ) (answer : Answer Verdict)
    → ChecksAs kind judging weights answer → Short answer
checks-as-short kind judging writable weights =
    let bad : Reason → Answer Verdict = λ reason. refused (refusal reason) in
    read-good Short judging _ bad
    (λ T next e. read-good Short (judged_weights_as kind (features T.sizes) weights) _ bad
    (λ ws end e' answer h. is-good Short (done h.0) (verdict-short T (listed ws) h.0 (writable T next e).countable h.2) answer h.1)
    refusal-short)
    refusal-short

pub checks-short : (task weights : List ℕ) (answer : Answer Verdict) → Checks task weights answer → Short answer
checks-short task = checks-as-short plain (judged_task task) (theory.accepted task)

-- ---- the longest line

-- One for a refusal with a place.
abbrev pub verdict_bytes : ℕ
verdict_bytes = refused_bytes

pub refusal-few : (number : ℕ) (spot : Spot) → number < 10 ^ most_digits → ShortSpot spot → length (refused_line number (file_text spot)) ≤ verdict_bytes
unfolding file_text
refusal-few = refused-few _ _ (omega arith) (omega arith)

pub verdict-few : (spot : Spot) (answer : Answer Verdict) → ShortSpot spot → Short answer → length (verdict_line spot answer) ≤ verdict_bytes
unfolding verdict_line
verdict-few spot (done accepted) near short = omega arith
verdict-few spot (done ends_alike) near short = omega arith
verdict-few spot (done (breaks j)) near short = omega (arith, length-append (word j) (10 ∷ []), word-few most_digits j (omega arith) short)
verdict-few spot (refused number) near short = refusal-few number spot short near

-- Files that are no longer than any slice: their places have few enough digits, and a room as long as that is never refused.
module _ (task weights : List ℕ) (few : length task < 10 ^ place_digits) (few' : length weights < 10 ^ place_digits) where
  pub checked-near : ShortSpot (checked_spot task weights)
  checked-near = spot-short task weights few few' (checked_spot task weights) (spot-within task weights plain)

  pub line-few : (answer : Answer Verdict) → Checks task weights answer → length (verdict_line (checked_spot task weights) answer) ≤ verdict_bytes
  line-few answer h = verdict-few (checked_spot task weights) answer checked-near (checks-short task weights answer h)

  pub verdict-lines-written : (room : List ℕ) → verdict_bytes ≤ length room → (outcome : Outcome ℕ) → VerdictLines task weights room outcome
      → (answer : Answer Verdict) × Checks task weights answer
      × (outcome ≡ writes (length (verdict_line (checked_spot task weights) answer)) (verdict_line (checked_spot task weights) answer) room)
  verdict-lines-written room = line-of-written (Checks task weights) (verdict_line (checked_spot task weights)) room verdict_bytes line-few

  -- The same of the program's line.
  files-few : (answer : Answer Verdict) → ChecksFiles task weights answer → length (verdict_line (files_spot task weights) answer) ≤ verdict_bytes
  files-few answer = by (too_long task weights)
    where
      by : (long : Bool) → cond long (answer ≡ refused (refusal Small)) (Checks task weights answer) → length (verdict_line (cond long nowhere (checked_spot task weights)) answer) ≤ verdict_bytes
      by true h = rw h (verdict-few nowhere (refused (refusal Small)) tt (refusal-short Small))
      by false h = line-few answer h

  pub file-lines-written : (room : List ℕ) → verdict_bytes ≤ length room → (outcome : Outcome ℕ) → FileLines task weights room outcome
      → (answer : Answer Verdict) × ChecksFiles task weights answer
      × (outcome ≡ writes (length (verdict_line (files_spot task weights) answer)) (verdict_line (files_spot task weights) answer) room)
  file-lines-written room = line-of-written (ChecksFiles task weights) (verdict_line (files_spot task weights)) room verdict_bytes files-few

-- ---- the program's limit on weights

-- A verdict has weights that are not too long; a refusal may have any.
abbrev NotTooLong : List ℕ → Answer Verdict → Type 0
NotTooLong weights (done v) = length weights ≤ most_weights
NotTooLong weights (refused number) = Unit {0}

list_length : (fs : List ℕ) → length (list_bytes plain fs) ≡ length (weight_bytes fs)
unfolding list_bytes
list_length fs = refl

weights-short : (task weights : List ℕ) → Bytes weights → (answer : Answer Verdict) → Checks task weights answer → NotTooLong weights answer
weights-short task weights bytes =
    let bad : Reason → Answer Verdict = λ reason. refused (refusal reason) in
    read-good (NotTooLong weights) (judged_task task) _ bad
    (λ T next e. read-good (NotTooLong weights) (judged_weights (features T.sizes) weights) _ bad
    (λ ws end e' answer h. is-good (NotTooLong weights) (done h.0) (short T next e ws end e') answer h.1)
    (λ reason. tt))
    (λ reason. tt)
  where
    short : (T : Task) (next : ℕ) → judged_task task ≡ got T next → (ws : List ℕ) (end : ℕ) → judged_weights (features T.sizes) weights ≡ got ws end → length weights ≤ most_weights
    short T next e ws end e' =
        let n = features T.sizes in
        omega (
          arith,
          ap length (theory.weights-bytes weights n ws end e' bytes),
          list_length ws,
          pairs-few plain 0 n ws (theory.accepted task T next e).acceptable.limits.total (theory.weights-accepted weights n ws end e'),
        )

-- So the limit takes no verdict away.
pub weights-taken : (task weights : List ℕ) → Bytes weights → (v : Verdict) → Checks task weights (done v) → length weights ≤ most_weights
weights-taken task weights bytes v = weights-short task weights bytes (done v)

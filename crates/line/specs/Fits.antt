-- What the program may answer, and that every line fits into so many bytes.
use Rattle.std.specs.Prelude.{ℕ, ◌+◌, ◌*◌, ◌^◌, ◌<◌, ◌≤◌, ◌≡◌, ◌⊎◌, true, ◌||◌, List, [], ◌∷◌, ◌++◌, ltb, length}
use Rattle.std.proofs.Common.{subst, inl, inr, arith, length-append, ltb-false}
use Rattle.meaning.specs.Limits.{most_input, most_program_features}
use Rattle.meaning.specs.Number.{Reason, Small, refusal, Read, got, fault}
use Rattle.meaning.specs.Task.{Task, Run}
use Rattle.meaning.specs.Feature.{features}
use Rattle.meaning.specs.File.{judged_task}
use Rattle.meaning.specs.Answer.{Answer, done, refused, Outcome, writes, by_read}
use Rattle.meaning.specs.Place.{spot_alone}
use Rattle.meaning.specs.Line.{Found as Answered, nothing, separating, Seeks, too_large, Prints, word, words_in, place_text, line, printed_spot}
use Rattle.theory.specs.Truth.{on, off, test, clash}
use Rattle.theory.specs.Search.{or_right}
use Rattle.theory.specs.Run.{run_length}
use Rattle.theory.specs.Shown.{spot-task-within}
use Rattle.decimal.specs.Decimal.{word_width, word-few, words-few}
use Rattle.text.specs.Answer.{line-of-written}
use Rattle.text.specs.Parts.{most_digits, ShortSpot, spot-short, refused-few, refusal-short}
use Rattle.line.specs.Answer.{Lines}

-- ---- what the program may answer

-- It refuses for a reason; or it answers for a task that has not too many features.
abbrev Answers : Answer Answered → Type 0
Answers answer =
    ((reason : Reason) × (answer ≡ refused (refusal reason)))
    ⊎ ((T : Task) × (found : Answered) × (answer ≡ done found) × Seeks T found × (features T.sizes ≤ most_program_features))

answers : (input : List ℕ) (answer : Answer Answered) → Prints input answer → Answers answer
answers input answer prints = elim (test (ltb most_input (length input) || too_large (judged_task input))) [
  | on e ↦ inl (Small, rw e at prints)
  | off e ↦ said (judged_task input) (λ t. clash (or_right (ltb most_input (length input)) _ t) e) (rw e at prints)
]
  where
    said : (read : Read Task) → (too_large read ≡ true → ⊥)
        → by_read read (λ T. (found : Answered) × (answer ≡ done found) × Seeks T found) (λ reason. answer ≡ refused (refusal reason))
        → Answers answer
    said (got T next) small (found, e, seeks) = elim (test (ltb most_program_features (features T.sizes))) [
      | on t ↦ absurd (small t)
      | off t ↦ inr (T, found, e, seeks, ltb-false most_program_features (features T.sizes) t)
    ]
    said (fault reason place) small e = inl (reason, e)

-- ---- the numbers of refusals

-- A refusal's number has few enough digits for a line.
number-short : (input : List ℕ) (number : ℕ) → Prints input (refused number) → number < 10 ^ most_digits
number-short input number prints = elim (answers input (refused number) prints) [
  | inl (reason, e) ↦ let same : number ≡ refusal reason = cc in rw same (refusal-short reason)
  | inr (T, found, e, seeks, few) ↦ absurd (let z : ◌≡◌ {A = ℕ} 0 1 = cc in omega arith)
]

-- ---- places

-- A place in an input that is judged has few enough digits for a line.
pub printed-short : (input : List ℕ) → ShortSpot (printed_spot input)
printed-short input = elim (test (ltb most_input (length input))) [
  | on e ↦ rw e tt
  | off e ↦ rw e (spot-short input [] (omega (arith, ltb-false most_input (length input) e)) (omega arith) (spot_alone (judged_task input)) (spot-task-within input []))
]

-- ---- the longest line

-- Three decimal digits hold the count of the most features, and each of them.
abbrev pub feature_digits : ℕ
feature_digits = 3

-- `separated`, the count and the most features, and the line's end.
abbrev pub line_bytes : ℕ
line_bytes = 9 + word_width feature_digits * (1 + most_program_features) + 1

features-few : (input fs : List ℕ) → Prints input (done (separating fs)) → (n : ℕ) × Run 0 fs n × (n ≤ most_program_features)
features-few input fs prints = elim (answers input (done (separating fs)) prints) [
  | inl (reason, e) ↦ absurd (let z : ◌≡◌ {A = ℕ} 0 1 = cc in omega arith)
  | inr (T, found, e, seeks, few) ↦ let same : found ≡ separating fs = cc in (features T.sizes, (subst (Seeks T) same seeks).0, few)
]

pub line-short : (input : List ℕ) (answer : Answer Answered) → Prints input answer → length (line (printed_spot input) answer) ≤ line_bytes
unfolding line words_in place_text
line-short input (done (separating fs)) prints =
    let (n, run, few) = features-few input fs prints in
    let count = run_length 0 n fs run in
    omega (
      arith,
      few,
      count,
      length-append (word (length fs) ++ words_in fs) (10 ∷ []),
      length-append (word (length fs)) (words_in fs),
      word-few feature_digits (length fs) (omega arith) (omega (arith, few, count)),
      words-few feature_digits 0 n fs (omega arith) (omega (arith, few)) run,
    )
line-short input (done nothing) prints = omega arith
line-short input (refused number) prints = omega (arith, refused-few [] [] (omega arith) (omega arith) number (printed_spot input) (number-short input number prints) (printed-short input))

-- A room as long as that is never refused.
pub lines-written : (input room : List ℕ) → line_bytes ≤ length room → (outcome : Outcome ℕ) → Lines input room outcome
    → (answer : Answer Answered) × Prints input answer × (outcome ≡ writes (length (line (printed_spot input) answer)) (line (printed_spot input) answer) room)
lines-written input room = line-of-written (Prints input) (line (printed_spot input)) room line_bytes (line-short input)

-- What a call that delivers a line answers; that it has one outcome; and that a line which fits is written, and ends within the room.
use Rattle.std.specs.Prelude.{ℕ, ◌≤◌, ◌≡◌, List, [], ◌++◌, ltb, length, take, drop, Result, Ok, Err}
use Rattle.std.proofs.Common.{sym, ap, ◌∙◌, arith, length-append, ltb-true, ltb-false}
use Rattle.meaning.specs.Answer.{Answer, done, Outcome, writes, delivered}
use Rattle.theory.specs.Determined.{AtMostOne}
use Rattle.theory.specs.Truth.{on, off, test}
use Rattle.writer.specs.Answer.{outcome_of}
use Rattle.writer.specs.Remains.{delivered-small, delivered-whole}
use Rattle.number.specs.declared.Reason.{Reason}

-- A line, if it was written, ends within so many bytes.
abbrev pub EndsWithin : ℕ → Result ℕ Reason → Type 0
EndsWithin bytes (Ok end) = end ≤ bytes
EndsWithin bytes (Err reason) = Unit {0}

-- The line that stands in front of a room; nothing where it was refused.
abbrev pub line_in : Result ℕ Reason → List ℕ → List ℕ
line_in (Ok end) room = take end room
line_in (Err reason) room = []

module _ {A : Type 0} (Allows : Answer A → Type 0) (line_of : Answer A → List ℕ) (room : List ℕ) where
  -- The line of an allowed answer goes to the front of the room; 8 where the room is too short for it.
  abbrev pub LineOf : Outcome ℕ → Type 0
  LineOf outcome = (answer : Answer A) × Allows answer × (outcome ≡ delivered (line_of answer) room)

  pub line-of-only : AtMostOne Allows → AtMostOne LineOf
  line-of-only only a b (x, p, e) (y, q, f) = e ∙ ap (λ answer. delivered (line_of answer) room) (only x y p q) ∙ sym f

  -- A line that was written ends within the room.
  pub line-of-ends : (left : List ℕ) (result : Result ℕ Reason) → LineOf (outcome_of result left) → EndsWithin (length left) result
  line-of-ends left (Err reason) lines = tt
  line-of-ends left (Ok end) (answer, allowed, e) = elim (test (ltb (length room) (length (line_of answer)))) [
    | on t ↦ absurd (let z : ◌≡◌ {A = ℕ} 0 1 = cc (ap (λ (o : Outcome ℕ). o.answer) (e ∙ delivered-small (line_of answer) room (ltb-true _ _ t))) in omega arith)
    | off t ↦
        let q = e ∙ delivered-whole (line_of answer) room (ltb-false _ _ t) in
        let same : done end ≡ done (length (line_of answer)) = ap (λ (o : Outcome ℕ). o.answer) q in
        let at : end ≡ length (line_of answer) = cc in
        let whole : left ≡ line_of answer ++ drop (length (line_of answer)) room = ap (λ (o : Outcome ℕ). o.lent) q in
        omega (arith, at, ap length whole, length-append (line_of answer) (drop (length (line_of answer)) room))
  ]

  module _ (bytes : ℕ) (short : (answer : Answer A) → Allows answer → length (line_of answer) ≤ bytes) (long : bytes ≤ length room) where
    -- A room as long as every line is never refused.
    pub line-of-written : (outcome : Outcome ℕ) → LineOf outcome
        → (answer : Answer A) × Allows answer × (outcome ≡ writes (length (line_of answer)) (line_of answer) room)
    line-of-written outcome (answer, allowed, e) =
        (answer, allowed, e ∙ delivered-whole (line_of answer) room (omega (arith, short answer allowed)))

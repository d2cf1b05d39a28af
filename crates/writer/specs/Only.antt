-- A call that writes a weight file has one outcome: one answer of the code, and one content of the room.
use Rattle.std.specs.Prelude.{ℕ, suc, ◌≡◌, ◌≢◌, refl, cond, List, [], ◌∷◌, Result, Ok, Err, eqb, leb, ltb, length}
use Rattle.std.proofs.Common.{sym, ap, ap₂, ◌∙◌, arith, ltb-true, ltb-false}
use Rattle.meaning.specs.Limits.{most_features}
use Rattle.meaning.specs.Number as meaning
use Rattle.meaning.specs.Number.{Range, Unordered, refusal}
use Rattle.meaning.specs.File.{weight_bytes}
use Rattle.meaning.specs.Answer.{Answer, done, refused, Judged, fine, faulty}
use Rattle.theory.specs.Determined.{AtMostOne}
use Rattle.theory.specs.Truth.{on, off, test}
use Rattle.number.specs.Answers.{reason_of}
use Rattle.number.specs.declared.Reason.{Reason}
use Rattle.number.specs.declared.Reason.TheVariants.{Ends, Padded, Endless, Limit, LeftOver, Outgrown, Held, Unclosed, Small, Malformed, Gaps, Unequal}
use Rattle.number.specs.declared.Reason.TheVariants as code
use Rattle.writer.specs.Answer.{written_of, outcome_of}
use Rattle.writer.specs.Remains.{delivered-small, delivered-whole}
use Rattle.writer.specs.Weights.{Writes, weights_judged, weights_written}
use Rattle.writer.specs.Judging.{weights-refused, weights-delivered}

-- ---- a number tells its reason, unless it is 2

abbrev numbered : ℕ → Reason
numbered n =
    cond (eqb n 1) Ends
    (cond (eqb n 3) code.Range
    (cond (eqb n 4) code.Unordered
    (cond (eqb n 5) LeftOver
    (cond (eqb n 6) Held
    (cond (eqb n 7) Unclosed
    (cond (eqb n 8) Small
    (cond (eqb n 9) Malformed
    (cond (eqb n 10) Gaps
    (cond (eqb n 11) Unequal
    (cond (eqb n 12) Padded
    Endless))))))))))

numbered-reason : (reason : Reason) → refusal (reason_of reason) ≢ 2 → numbered (refusal (reason_of reason)) ≡ reason
numbered-reason Ends d = refl
numbered-reason Padded d = refl
numbered-reason Endless d = refl
numbered-reason Limit d = absurd (d refl)
numbered-reason code.Range d = refl
numbered-reason code.Unordered d = refl
numbered-reason LeftOver d = refl
numbered-reason Outgrown d = absurd (d refl)
numbered-reason Held d = refl
numbered-reason Unclosed d = refl
numbered-reason Small d = refl
numbered-reason Malformed d = refl
numbered-reason Gaps d = refl
numbered-reason Unequal d = refl

-- So do an answer and the code's own.
abbrev own : Answer ℕ → Result ℕ Reason
own (done n) = Ok n
own (refused n) = Err (numbered n)

own-answer : (r : Result ℕ Reason) → written_of r ≢ refused 2 → own (written_of r) ≡ r
own-answer (Ok n) d = refl
own-answer (Err reason) d = ap Err (numbered-reason reason (λ e. d (ap refused e)))

-- ---- no weight file is refused with 2

judged-known : (least : ℕ) (weights : List ℕ) (reason : meaning.Reason) → weights_judged least weights ≡ faulty reason → refusal reason ≢ 2
unfolding weights_judged
judged-known least [] reason e = absurd (let z : ◌≡◌ {A = ℕ} 0 1 = cc in omega arith)
judged-known least (f ∷ fs) reason e = elim (test (ltb f most_features)) [
  | on t ↦ elim (test (leb least f)) [
    | on u ↦ judged-known (suc f) fs reason (rw (t, u) at e)
    | off u ↦ let q : faulty Unordered ≡ faulty reason = rw (t, u) at e in unlike Unordered reason q (λ z. omega arith)
  ]
  | off t ↦ let q : faulty Range ≡ faulty reason = rw t at e in unlike Range reason q (λ z. omega arith)
]
  where
    unlike : (a b : meaning.Reason) → faulty a ≡ faulty b → refusal a ≢ 2 → refusal b ≢ 2
    unlike a b q d = let same : a ≡ b = cc in rw (← same) d

written-known : (weights room : List ℕ) → (weights_written weights room).answer ≢ refused 2
written-known weights room = by (weights_judged 0 weights) refl
  where
    file : List ℕ
    file = weight_bytes weights

    unlike : {a b : Answer ℕ} → a ≡ b → b ≢ refused 2 → a ≢ refused 2
    unlike e d = rw e d

    by : (j : Judged) → weights_judged 0 weights ≡ j → (weights_written weights room).answer ≢ refused 2
    by (faulty reason) e = unlike (ap (λ o. o.answer) (weights-refused weights room reason e)) (λ q. let z : refusal reason ≡ 2 = cc in judged-known 0 weights reason e z)
    by fine e = elim (test (ltb (length room) (length file))) [
      | on s ↦ unlike (ap (λ o. o.answer) (weights-delivered weights room e ∙ delivered-small file room (ltb-true (length room) (length file) s))) (λ q. let z : ◌≡◌ {A = ℕ} 8 2 = cc in omega arith)
      | off s ↦ unlike (ap (λ o. o.answer) (weights-delivered weights room e ∙ delivered-whole file room (ltb-false (length room) (length file) s))) (λ q. let z : ◌≡◌ {A = ℕ} 0 1 = cc in omega arith)
    ]

-- Two answers with the rooms that they leave, both allowed for the same features and the same room, are equal.
pub writes-only : (weights room : List ℕ) → AtMostOne (λ (o : Result ℕ Reason × List ℕ). Writes weights room (outcome_of o.0 o.1))
writes-only weights room (r, left) (r', left') h h' =
    let known = written-known weights room in
    let first = own-answer r (λ e. known (sym (ap (λ o. o.answer) h) ∙ e)) in
    let second = own-answer r' (λ e. known (sym (ap (λ o. o.answer) h') ∙ e)) in
    ap₂ (λ a b. (a, b)) (sym first ∙ ap (λ o. own o.answer) (h ∙ sym h') ∙ second) (ap (λ o. o.lent) (h ∙ sym h'))

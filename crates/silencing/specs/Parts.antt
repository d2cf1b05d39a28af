-- The parts of the partial file of a task: the front and the pairs anew, and the operators as in the task's file.
use Rattle.std.specs.Prelude.{Ok, ℕ, suc, ◌+◌, ◌*◌, ◌<◌, ◌≤◌, ◌≡◌, Bool, true, false, cond, eqb, ltb, length, take, drop}
use Rattle.std.proofs.Math.Path.{refl}
use Rattle.std.proofs.Common.{sym, ap, ap₂, eqb-true, lt-ltb, le-ltb}
use mathlib.Core.List.{List, [], ◌∷◌, ◌++◌, append-nil}
use native.Mathlib.Omega.{arith}
use Rattle.std.proofs.Math.ListN.{length-append}
use Rattle.std.proofs.lemmas.Bool.{eqb-false}
use Rattle.meaning.specs.Sets.{table}
use Rattle.meaning.specs.Limits.{group, number_end, word_bits}
use Rattle.meaning.specs.Task.{Task, State, value, size}
use Rattle.meaning.specs.Number.{group_bytes, number_bytes}
use Rattle.meaning.specs.File.{plain, bytes_of, counted, operator_bytes, weight_bytes, list_bytes}
use Rattle.meaning.specs.Workspace.{has}
use Rattle.meaning.specs.Answer.{delivered}
use Rattle.meaning.specs.Partial.{marks_in, named_in, partial_bytes, silenced}
use Rattle.theory.specs.Truth.{on, off, test}
use Rattle.theory.specs.NumberBack.{number-bytes-length}
use Rattle.words.specs.Members.{members_in, members-few}
use Rattle.writer.specs.Answer.{outcome_of}
use Rattle.writer.specs.Parts.{Countable, FewWords}
use Rattle.writer.specs.Widths.{four_lists, numbers-few, list-few, features-few}
use Rattle.writer.specs.Remains.{remains-all, remains-after, remains-none, delivered-done}
use Rattle.silencing.specs.Marks.{Marked, picked}

-- ---- the file by its parts

-- What stands behind the goal: the pairs in words, how many operators there are, and the operators.
unfoldable pub rest_bytes : List ℕ → ℕ → List ℕ → List ℕ
rest_bytes pairs count own = list_bytes plain (members_in pairs) ++ (number_bytes count ++ own)

pub rest-length : (pairs : List ℕ) (count : ℕ) (own : List ℕ)
    → length (rest_bytes pairs count own) ≡ length (list_bytes plain (members_in pairs)) + length (number_bytes count) + length own
unfolding rest_bytes
rest-length pairs count own = omega (arith, length-append (list_bytes plain (members_in pairs)) (number_bytes count ++ own), length-append (number_bytes count) own)

-- It is short but for the operators.
pub rest-few : (pairs : List ℕ) (count : ℕ) (own : List ℕ) → FewWords pairs → length (rest_bytes pairs count own) ≤ four_lists + length own
rest-few pairs count own few =
    omega (arith, rest-length pairs count own, features-few plain (members_in pairs), members-few (has pairs) (word_bits * length pairs), few, (number-bytes-length count).1)

-- Sizes with their count, marks, start, the goal values that are named, and the rest as it is.
unfoldable pub parts_bytes : List ℕ → List ℕ → List ℕ → List ℕ → List ℕ → List ℕ
parts_bytes sizes marks start named rest = counted number_bytes sizes ++ (marks ++ (bytes_of number_bytes start ++ (bytes_of number_bytes named ++ rest)))

-- What can be written so.
abbrev pub PartialFront : List ℕ → List ℕ → List ℕ → List ℕ → Type 0
PartialFront sizes marks start named = Countable sizes × (length marks < number_end) × Countable start × Countable named

module _ (sizes marks start named rest : List ℕ) where
  pub parts-length : length (parts_bytes sizes marks start named rest)
      ≡ length (counted number_bytes sizes) + length marks + length (bytes_of number_bytes start) + length (bytes_of number_bytes named) + length rest
  unfolding parts_bytes
  parts-length =
      let last = bytes_of number_bytes named ++ rest in
      omega (
        arith,
        length-append (counted number_bytes sizes) (marks ++ (bytes_of number_bytes start ++ last)),
        length-append marks (bytes_of number_bytes start ++ last),
        length-append (bytes_of number_bytes start) last,
        length-append (bytes_of number_bytes named) rest,
      )

  -- A front is short.
  pub parts-few : PartialFront sizes marks start named → length (parts_bytes sizes marks start named rest) ≤ four_lists + length rest
  parts-few (s, m, b, n) = omega (arith, parts-length, list-few sizes, numbers-few start, numbers-few named, s.0, m, b.0, n.0)

  -- Parts that were written one after the other are the whole file.
  module _ (room room₁ room₂ room₃ room₄ room₅ : List ℕ) (second third fourth fifth end : ℕ) where
    pub partial-delivered : length (parts_bytes sizes marks start named rest) ≤ length room
        → (second ≡ 0 + length (counted number_bytes sizes)) × (room₁ ≡ take 0 room ++ (counted number_bytes sizes ++ drop second room))
        → (third ≡ second + length marks) × (room₂ ≡ take second room₁ ++ (marks ++ drop third room₁))
        → (fourth ≡ third + length (bytes_of number_bytes start)) × (room₃ ≡ take third room₂ ++ (bytes_of number_bytes start ++ drop fourth room₂))
        → (fifth ≡ fourth + length (bytes_of number_bytes named)) × (room₄ ≡ take fourth room₃ ++ (bytes_of number_bytes named ++ drop fifth room₃))
        → (end ≡ fifth + length rest) × (room₅ ≡ take fifth room₄ ++ (rest ++ drop end room₄))
        → outcome_of (Ok end) room₅ ≡ delivered (parts_bytes sizes marks start named rest) room
    unfolding parts_bytes
    partial-delivered fit a b c d e =
        let file = parts_bytes sizes marks start named rest in
        let r₁ = remains-after (remains-all room 0 file (omega arith)) (counted number_bytes sizes) _ room₁ second refl a.0 a.1 in
        let r₂ = remains-after r₁ marks _ room₂ third refl b.0 b.1 in
        let r₃ = remains-after r₂ (bytes_of number_bytes start) _ room₃ fourth refl c.0 c.1 in
        let r₄ = remains-after r₃ (bytes_of number_bytes named) _ room₄ fifth refl d.0 d.1 in
        let all = remains-none (remains-after r₄ rest [] room₅ end (sym (append-nil rest)) e.0 e.1) refl in
        delivered-done file room room₅ end fit all.0 all.1

-- ---- marks and named values of the partial task

-- A mark is one byte.
marks-bytes : (marks : List ℕ) (v : ℕ) → Marked v marks → bytes_of number_bytes marks ≡ marks
unfolding bytes_of number_bytes group_bytes
marks-bytes [] v ok = refl
marks-bytes (m ∷ ms) v ok =
    rw (lt-ltb m group (omega (arith, ok.each 0 (omega arith)))) (ap (◌∷◌ m) (marks-bytes ms (length ms) (record { long = refl; each = λ i l. ok.each (suc i) (omega arith) })))

-- The goal with the sizes where it is silent.
abbrev silent_goal : List ℕ → List ℕ → List ℕ → List ℕ
silent_goal sizes marks goal = table (length sizes) (λ i. cond (eqb (value marks i) 1) (value goal i) (size sizes i))

-- Of the first variable.
first : (d m g : ℕ) → m < 2 → g < d → (cond (ltb (cond (eqb m 1) g d) d) 1 0 ≡ m) × (ltb (cond (eqb m 1) g d) d ≡ eqb m 1)
first d m g h l = elim (test (eqb m 1)) [
  | on q ↦ rw (q, lt-ltb g d l) (sym (eqb-true m 1 q), refl)
  | off q ↦ rw (q, le-ltb d d (omega arith)) (omega (arith, eqb-false m 1 q), refl)
]

marked : (sizes marks goal : List ℕ) → Marked (length sizes) marks → State sizes goal
    → (marks_in sizes (silent_goal sizes marks goal) ≡ marks) × (named_in sizes (silent_goal sizes marks goal) ≡ picked marks goal)
unfolding marks_in named_in picked table
marked [] [] goal ok t = (refl, refl)
marked [] (m ∷ ms) goal ok t = absurd (omega (arith, ok.long))
marked (d ∷ ds) [] goal ok t = absurd (omega (arith, ok.long))
marked (d ∷ ds) (m ∷ ms) [] ok t = absurd (omega (arith, t.full))
marked (d ∷ ds) (m ∷ ms) (g ∷ gs) ok t =
    let (mark, named) = first d m g (ok.each 0 (omega arith)) (t.values 0 (omega arith)) in
    let (rest, others) = marked ds ms gs (record { long = omega (arith, ok.long); each = λ i l. ok.each (suc i) (omega arith) })
    (record { full = omega (arith, t.full); values = λ i l. t.values (suc i) (omega arith) }) in
    (ap₂ ◌∷◌ mark rest, ap₂ ◌++◌ (value-picked (eqb m 1) (ltb (cond (eqb m 1) g d) d) g d named) others)
  where
    value-picked : (b c : Bool) (g d : ℕ) → c ≡ b → cond c (cond b g d ∷ []) [] ≡ cond b (g ∷ []) []
    value-picked true c g d e = rw e refl
    value-picked false c g d e = rw e refl

-- What stands behind the goal of a task's partial file.
pub task-rest : (T : Task) (pairs : List ℕ) (count : ℕ) (own : List ℕ) → members_in pairs ≡ T.pairs → count ≡ length T.operators → own ≡ bytes_of operator_bytes T.operators
    → rest_bytes pairs count own ≡ weight_bytes T.pairs ++ counted operator_bytes T.operators
unfolding rest_bytes list_bytes counted
task-rest T pairs count own same many copied = rw (same, many, copied) refl

pub silenced-bytes : (T : Task) (marks rest : List ℕ) → State T.sizes T.goal → Marked (length T.sizes) marks → rest ≡ weight_bytes T.pairs ++ counted operator_bytes T.operators
    → partial_bytes (silenced T marks) ≡ parts_bytes T.sizes marks T.start (picked marks T.goal) rest
unfolding partial_bytes parts_bytes silenced
silenced-bytes T marks rest t ok behind =
    let (mark, named) = marked T.sizes marks T.goal ok t in
    rw (mark, named, marks-bytes marks _ ok, behind) refl

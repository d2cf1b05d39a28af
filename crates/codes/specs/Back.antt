-- A caller reads the answer back from the number, and a call of the face that allows one answer leaves one number and one memory.
use Rattle.std.specs.Prelude.{ℕ, zero, suc, ◌/◌, ◌%◌, ◌<◌, ◌≡◌, refl, false, cond, eqb}
use Rattle.std.proofs.Common.{sym, ap, ap₂, ◌∙◌, subst, arith}
use Rattle.meaning.specs.Answer.{Answer, done, refused, Outcome, Verdict, accepted, ends_alike, breaks, none, separated}
use Rattle.meaning.specs.Mend.{PairFault, no_fault, start_holds, operator_breaks}
use Rattle.meaning.specs.Place.{task_holds, weights_hold}
use Rattle.theory.specs.Determined.{AtMostOne}
use Rattle.codes.specs.Code.{value_end, Code, code, number_of, refused_case, answer_code, verdict_code, length_code, finding_code, edit_code, fault_code, holder_code, Coded, Left, Leaves, Fits, FitsIn}

-- ---- a number and its code

-- The case and the value that stand in a number.
abbrev pub code_in : ℕ → Code
code_in number = code (number / value_end) (number % value_end)

code-back : (c : Code) → c.value < value_end → code_in (number_of c) ≡ c
code-back c h =
    let p : number_of c / value_end ≡ c.case = omega arith in
    let q : number_of c % value_end ≡ c.value = omega arith in
    ap₂ code p q

-- ---- a code and its answer

-- A table of results that can be read back: each result has a code of its own, and none has a refusal's case.
pub record Table {A : Type 0} (result_code : A → Code) : Type 0 where
  pub result : Code → A
  pub result-back : (a : A) → result (result_code a) ≡ a
  pub no-refusal : (a : A) → eqb (result_code a).case refused_case ≡ false

module _ {A : Type 0} {result_code : A → Code} (table : Table result_code) where
  abbrev pub answer_at : Code → Answer A
  answer_at c = cond (eqb c.case refused_case) (refused c.value) (done (table.result c))

  -- The answer that a caller reads in a number.
  abbrev pub answer_in : ℕ → Answer A
  answer_in number = answer_at (code_in number)

  answer_at_lem : (answer : Answer A) → answer_at (answer_code result_code answer) ≡ answer
  answer_at_lem (done a) = rw (table.no-refusal a) (ap done (table.result-back a))
  answer_at_lem (refused n) = refl

  pub answer_back : (answer : Answer A) → Fits result_code answer → answer_in (number_of (answer_code result_code answer)) ≡ answer
  answer_back answer h = ap answer_at (code-back (answer_code result_code answer) h) ∙ answer_at_lem answer

  -- What is read is allowed.
  pub read-allowed : (Allows : Answer A → Type 0) → ((a : Answer A) → Allows a → Fits result_code a)
      → (number : ℕ) → Coded result_code Allows number → Allows (answer_in number)
  read-allowed Allows fits number (a, h, e) = subst Allows (sym (ap answer_in e ∙ answer_back a (fits a h))) h

  abbrev pub outcome_in : Left → Outcome A
  outcome_in left = record { answer = answer_in left.number; lent = left.lent }

  pub outcome-allowed : (Allows : Outcome A → Type 0) → ((o : Outcome A) → Allows o → FitsIn result_code o)
      → (left : Left) → Leaves result_code Allows left → Allows (outcome_in left)
  outcome-allowed Allows fits left =
      read-allowed (λ a. Allows (record { answer = a; lent = left.lent })) (λ a. fits (record { answer = a; lent = left.lent })) left.number

pub verdict-table : Table verdict_code
verdict-table = record {
  result = λ c. verdict_at c.case c.value;
  result-back = λ v. elim v as (λ v. verdict_at (verdict_code v).case (verdict_code v).value ≡ v) [ accepted ↦ refl | ends_alike ↦ refl | breaks j ↦ refl ];
  no-refusal = λ v. elim v as (λ v. eqb (verdict_code v).case refused_case ≡ false) [ accepted ↦ refl | ends_alike ↦ refl | breaks j ↦ refl ];
}
  where
    verdict_at : ℕ → ℕ → Verdict
    verdict_at zero value = accepted
    verdict_at (suc zero) value = ends_alike
    verdict_at (suc (suc k)) value = breaks value

pub length-table : Table length_code
length-table = record { result = λ c. c.value; result-back = λ k. refl; no-refusal = λ k. refl }

pub finding-table : Table finding_code
finding-table = record {
  result = λ c. cond (eqb c.case 0) separated none;
  result-back = λ f. elim f as (λ f. cond (eqb (finding_code f).case 0) separated none ≡ f) [ none ↦ refl | separated ↦ refl ];
  no-refusal = λ f. elim f as (λ f. eqb (finding_code f).case refused_case ≡ false) [ none ↦ refl | separated ↦ refl ];
}

pub edit-table : Table edit_code
edit-table = record { result = λ c. tt; result-back = λ u. refl; no-refusal = λ u. refl }

pub fault-table : Table fault_code
fault-table = record {
  result = λ c. fault_at c.case;
  result-back = λ f. elim f as (λ f. fault_at (fault_code f).case ≡ f) [ no_fault ↦ refl | start_holds ↦ refl | operator_breaks ↦ refl ];
  no-refusal = λ f. elim f as (λ f. eqb (fault_code f).case refused_case ≡ false) [ no_fault ↦ refl | start_holds ↦ refl | operator_breaks ↦ refl ];
}
  where
    fault_at : ℕ → PairFault
    fault_at zero = no_fault
    fault_at (suc zero) = start_holds
    fault_at (suc (suc k)) = operator_breaks

pub holder-table : Table holder_code
holder-table = record {
  result = λ c. cond (eqb c.case 0) task_holds weights_hold;
  result-back = λ h. elim h as (λ h. cond (eqb (holder_code h).case 0) task_holds weights_hold ≡ h) [ task_holds ↦ refl | weights_hold ↦ refl ];
  no-refusal = λ h. elim h as (λ h. eqb (holder_code h).case refused_case ≡ false) [ task_holds ↦ refl | weights_hold ↦ refl ];
}

-- ---- one number and one memory

pub coded-only : {A : Type 0} (result_code : A → Code) (Allows : Answer A → Type 0) → AtMostOne Allows → AtMostOne (Coded result_code Allows)
coded-only result_code Allows only n n' (a, h, e) (b, k, q) = e ∙ ap (λ c. number_of (answer_code result_code c)) (only a b h k) ∙ sym q

pub leaves-only : {A : Type 0} (result_code : A → Code) (Allows : Outcome A → Type 0) → AtMostOne Allows → AtMostOne (Leaves result_code Allows)
leaves-only result_code Allows only l m (a, h, e) (b, k, q) =
    let same = only (record { answer = a; lent = l.lent }) (record { answer = b; lent = m.lent }) h k in
    ap₂ (λ n lent. record { number = n; lent = lent }) (e ∙ ap (λ o. number_of (answer_code result_code o.answer)) same ∙ sym q) (ap (λ o. o.lent) same)

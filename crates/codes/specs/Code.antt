-- How an answer becomes one number: "case times 2^32 plus value".
use Rattle.std.specs.Prelude.{ℕ, ◌+◌, ◌*◌, ◌^◌, ◌<◌, ◌≡◌, List}
use Rattle.meaning.specs.Answer.{Answer, done, refused, Outcome, Verdict, accepted, ends_alike, breaks, Finding, none, separated}
use Rattle.meaning.specs.Mend.{PairFault, no_fault, start_holds, operator_breaks}
use Rattle.meaning.specs.Place.{Holder, task_holds, weights_hold}

-- Every value is below this number.
abbrev pub value_end : ℕ
value_end = 2 ^ 32

pub record Code : Type 0 where
  pub case : ℕ
  pub value : ℕ

abbrev pub code : ℕ → ℕ → Code
code case value = record { case = case; value = value }

abbrev pub number_of : Code → ℕ
number_of c = c.case * value_end + c.value

-- ---- the tables

abbrev pub refused_case : ℕ
refused_case = 3

-- A result has its call's code; a refusal is case 3 with its number in every call.
abbrev pub answer_code : {A : Type 0} → (A → Code) → Answer A → Code
answer_code result_code (done a) = result_code a
answer_code result_code (refused n) = code refused_case n

abbrev pub verdict_code : Verdict → Code
verdict_code accepted = code 0 0
verdict_code ends_alike = code 1 0
verdict_code (breaks j) = code 2 j

-- Words due, or bytes written.
abbrev pub length_code : ℕ → Code
length_code k = code 0 k

abbrev pub finding_code : Finding → Code
finding_code separated = code 0 0
finding_code none = code 1 0

abbrev pub edit_code : Unit {0} → Code
edit_code u = code 0 0

-- The pair and the operator's number are in the lent words.
abbrev pub fault_code : PairFault → Code
fault_code no_fault = code 0 0
fault_code start_holds = code 1 0
fault_code operator_breaks = code 2 0

-- Which file holds the part; its beginning and its length are in the lent words.
abbrev pub holder_code : Holder → Code
holder_code task_holds = code 0 0
holder_code weights_hold = code 1 0

-- ---- what a call of the face says

-- The number is the code of an answer that the call allows.
abbrev pub Coded : {A : Type 0} → (A → Code) → (Answer A → Type 0) → ℕ → Type 0
Coded {A} result_code Allows number = (answer : Answer A) × Allows answer × (number ≡ number_of (answer_code result_code answer))

-- What a call that is lent memory leaves: its number, and that memory.
pub record Left : Type 0 where
  pub number : ℕ
  pub lent : List ℕ

abbrev pub Leaves : {A : Type 0} → (A → Code) → (Outcome A → Type 0) → Left → Type 0
Leaves result_code Allows left = Coded result_code (λ answer. Allows (record { answer = answer; lent = left.lent })) left.number

-- ---- answers whose value stands whole in the number

abbrev pub Fits : {A : Type 0} → (A → Code) → Answer A → Type 0
Fits result_code answer = (answer_code result_code answer).value < value_end

abbrev pub FitsIn : {A : Type 0} → (A → Code) → Outcome A → Type 0
FitsIn result_code outcome = Fits result_code outcome.answer

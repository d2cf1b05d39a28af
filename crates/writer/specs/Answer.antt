-- What a call that writes a file or a line answers, in the words of the meaning.
use Rattle.std.specs.Prelude.{ℕ, ◌≡◌, List, Result, Ok, Err}
use Rattle.std.proofs.Common.{ap}
use Rattle.meaning.specs.Number.{Reason, refusal}
use Rattle.meaning.specs.Answer.{Answer, done, refused, Outcome, refuses}
use Rattle.number.specs.Answers.{reason_of}
use Rattle.number.specs.declared.Reason as code

abbrev pub written_of : Result ℕ code.Reason → Answer ℕ
written_of (Ok n) = done n
written_of (Err reason) = refused (refusal (reason_of reason))

-- The answer, and what is left in the lent bytes.
abbrev pub outcome_of : Result ℕ code.Reason → List ℕ → Outcome ℕ
outcome_of r room = record { answer = written_of r; lent = room }

pub refused-so : (r : Result ℕ code.Reason) (reason : Reason) (room : List ℕ) → written_of r ≡ refused (refusal reason) → outcome_of r room ≡ refuses reason room
refused-so r reason room e = ap (λ answer. record { answer = answer; lent = room }) e

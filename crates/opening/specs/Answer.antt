-- What the answer says in the words of the meaning.
use Rattle.std.specs.Prelude.{ℕ, Result, Ok, Err}
use Rattle.meaning.specs.Number.{refusal}
use Rattle.meaning.specs.Answer.{Answer, done, refused}
use Rattle.number.specs.Answers.{reason_of}
use Rattle.number.specs.declared.Reason.{Reason}

abbrev pub opened_of : Result ℕ Reason → Answer ℕ
opened_of (Ok due) = done due
opened_of (Err reason) = refused (refusal (reason_of reason))

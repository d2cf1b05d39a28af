-- What the calls answer in the words of the meaning, and where a part that is lent lies in memory.
use Rattle.std.specs.Prelude.{ℕ, ◌+◌, ◌≡◌, List, Result, Ok, Err}
use Rattle.std.proofs.Common.{sym, subst}
use Rattle.meaning.specs.Number.{refusal}
use Rattle.meaning.specs.File.{plain}
use Rattle.meaning.specs.Answer.{Answer, done, refused, Outcome}
use Rattle.meaning.specs.Place as meaning
use Rattle.theory.specs.Shown.{PartWithin, shown-within}
use Rattle.number.specs.Answers.{reason_of}
use Rattle.number.specs.declared.Reason.{Reason}
use Rattle.showing.specs.declared.Displayed.{Displayed}
use Rattle.showing.specs.declared.Displayed.TheVariants.{Task, Weights}

abbrev pub displayed_of : Result Displayed Reason → Answer meaning.Holder
displayed_of (Ok Task) = done meaning.task_holds
displayed_of (Ok Weights) = done meaning.weights_hold
displayed_of (Err reason) = refused (refusal (reason_of reason))

-- The answer, and what is left in the lent words.
abbrev pub leaving_of : Result Displayed Reason → List ℕ → Outcome meaning.Holder
leaving_of r room = record { answer = displayed_of r; lent = room }

-- Where a part begins, by where the two files begin: the file's memory, and so many bytes further.
abbrev pub place_in : ℕ × ℕ → ℕ × ℕ → meaning.Part → ℕ × ℕ
place_in task weights (meaning.of_task place many) = (task.0, place + task.1)
place_in task weights (meaning.of_weights place many) = (weights.0, place + weights.1)

-- ---- the part, as it is lent

module _ (task weights : List ℕ) where
  pub part-within : (part : meaning.Part) → part ≡ meaning.shown task weights → PartWithin task weights part
  part-within part e = subst (PartWithin task weights) (sym e) (shown-within plain task weights)

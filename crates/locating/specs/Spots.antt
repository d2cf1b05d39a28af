-- Where the first fault stands, by what the judge and the reader of weights found.
use Rattle.std.specs.Prelude.{ℕ, ◌≡◌, refl, List, None, Some, Result, Ok, Err}
use Rattle.std.specs.Result.{result_err}
use Rattle.std.proofs.Common.{sym, ap, ◌∙◌}
use Rattle.std.proofs.lemmas.Option.{none-some}
use Rattle.meaning.specs.Task.{Task}
use Rattle.meaning.specs.Number.{Read, got}
use Rattle.meaning.specs.File.{Kind, judged_weights_as}
use Rattle.meaning.specs.Place.{Spot, nowhere, in_weights, in_task, fault_spot, spot_by, spot_beside}
use Rattle.number.specs.Answers.{reason_of, faulted}
use Rattle.number.specs.declared.Fault.{Fault}
use Rattle.task.specs.Answer.{KnownAs}

-- What is told of an answer by its error, or by that it has none.
module _ {A F : Type 0} (answer : Result A F) where
  pub err-some : (f : F) → Some f ≡ result_err answer → answer ≡ Err f
  err-some f = by answer
    where
      by : (r : Result A F) → Some f ≡ result_err r → r ≡ Err f
      by (Ok a) e = absurd (none-some f (sym e))
      by (Err g) e = cc

  pub err-none : None ≡ result_err answer → (a : A) × (answer ≡ Ok a)
  err-none = by answer
    where
      by : (r : Result A F) → None ≡ result_err r → (a : A) × (r ≡ Ok a)
      by (Ok a) e = (a, refl)
      by (Err f) e = absurd (none-some f e)

module _ {A : Type 0} (file : ℕ → Spot) (rest : A → Spot) (spot : Spot) where
  -- A fault is placed by its reason.
  pub fault-spot : (read : Read A) (f : Fault) → read ≡ faulted f → spot ≡ fault_spot file (reason_of f.0) f.1 → spot ≡ spot_by file read rest
  fault-spot read f e q = rw e q

  -- Where nothing is at fault, the rest decides.
  pub next-spot : (read : Read A) (a : A) (next : ℕ) → read ≡ got a next → spot ≡ rest a → spot ≡ spot_by file read rest
  next-spot read a next e q = rw e q

-- An accepted task leaves the fault to the weights.
pub weights-spot : {judging : Read Task} {words left : List ℕ} {v n : ℕ} → KnownAs judging words left v n → (kind : Kind) (weights : List ℕ) (spot : Spot)
    → spot ≡ spot_by in_weights (judged_weights_as kind n weights) (λ _. nowhere) → spot ≡ spot_beside kind judging weights
weights-spot {judging = judging} known kind weights spot e =
    next-spot in_task _ spot judging known.task known.next known.judged (e ∙ ap (λ k. spot_by in_weights (judged_weights_as kind k weights) (λ _. nowhere)) known.total)

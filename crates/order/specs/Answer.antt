-- What the judge's answer and the words that it leaves say of a partial task file.
use Rattle.std.specs.Prelude.{ℕ, ◌≤◌, ◌≡◌, Bool, List, length, Result, Ok, Err}
use Rattle.meaning.specs.Number.{got}
use Rattle.meaning.specs.File.{operators_of}
use Rattle.meaning.specs.Partial.{Partial, Ordered, forgettings, built_task, judged_partial}
use Rattle.theory.specs.PartialParts.{out_for}
use Rattle.number.specs.Answers.{faulted}
use Rattle.number.specs.declared.Fault.{Fault}
use Rattle.task.specs.Answer.{KnownAs}
use Rattle.order.specs.declared.Judged.{Judged}

-- What is known of an accepted partial file, by the counts and the place of the answer: the built task with its header in the words, and where the file's
-- operators are read, by the built sizes.
pub record KnownPartial (lean : Bool) (bytes words left : List ℕ) (v n count kept at : ℕ) : Type 0 where
  pub accepted : KnownAs (judged_partial (out_for lean) bytes) words left v n
  pub partial : Partial
  pub ordered : Ordered partial
  pub built : accepted.task ≡ built_task partial (out_for lean partial)
  pub many : count ≡ length partial.operators
  pub forgotten : kept ≡ length (forgettings partial.sizes (out_for lean partial))
  pub operators : operators_of accepted.task.sizes count bytes at ≡ got partial.operators accepted.next
  pub end : length bytes ≤ accepted.next

-- An accepted file, or the first fault; then nothing is said of the words.
abbrev pub PartialInto : Bool → List ℕ → List ℕ → Result Judged Fault → List ℕ → Type 0
PartialInto lean bytes words (Ok judged) left = let h = judged.header in KnownPartial lean bytes words left h.variables h.features h.operators judged.kept h.next
PartialInto lean bytes words (Err f) left = judged_partial (out_for lean) bytes ≡ faulted f

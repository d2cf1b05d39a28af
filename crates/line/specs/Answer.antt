-- What the call answers in the words of the meaning, and that it has one outcome.
use Rattle.std.specs.Prelude.{ℕ, List, Result, Ok, Err}
use Rattle.meaning.specs.Number.{refusal}
use Rattle.meaning.specs.Answer.{Answer, done, refused, Outcome}
use Rattle.meaning.specs.Line as meaning
use Rattle.theory.specs.Determined.{AtMostOne, prints-only}
use Rattle.words.specs.Members.{members_in}
use Rattle.text.specs.Answer.{LineOf, line-of-only}
use Rattle.number.specs.Answers.{reason_of}
use Rattle.number.specs.declared.Reason.{Reason}
use Rattle.finding.specs.declared.Found.{Found}
use Rattle.finding.specs.declared.Found.TheVariants as found

-- The line of the program's answer for an input goes to the front of the room; 8 where the room is too short for it.
abbrev pub Lines : List ℕ → List ℕ → Outcome ℕ → Type 0
Lines input = LineOf (meaning.Prints input) (meaning.line (meaning.printed_spot input))

pub lines-only : (input room : List ℕ) → AtMostOne (Lines input room)
lines-only input room = line-of-only (meaning.Prints input) (meaning.line (meaning.printed_spot input)) room (prints-only input)

-- The program's answer, from that of the finder and the words that it left.
abbrev pub sought_of : Result Found Reason → List ℕ → Answer meaning.Found
sought_of (Ok found.Separated) weights = done (meaning.separating (members_in weights))
sought_of (Ok found.Nothing) weights = done meaning.nothing
sought_of (Err reason) weights = refused (refusal (reason_of reason))

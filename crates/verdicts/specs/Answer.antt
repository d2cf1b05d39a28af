-- What the calls answer in the words of the meaning, and that each has one outcome.
use Rattle.std.specs.Prelude.{ℕ, List}
use Rattle.meaning.specs.Number.{Small, refusal}
use Rattle.meaning.specs.File.{plain, judged_task}
use Rattle.meaning.specs.Answer.{refused, Outcome, Checks}
use Rattle.meaning.specs.Line.{too_long, ChecksFiles, checked_spot, files_spot, verdict_line}
use Rattle.theory.specs.Determined.{AtMostOne, is-only, if-only, checks-only}
use Rattle.text.specs.Answer.{LineOf, line-of-only}

-- The line of the checker's answer goes to the front of the room; 8 where the room is too short for it.
abbrev pub VerdictLines : List ℕ → List ℕ → List ℕ → Outcome ℕ → Type 0
VerdictLines task weights = LineOf (Checks task weights) (verdict_line (checked_spot task weights))

pub verdict-lines-only : (task weights room : List ℕ) → AtMostOne (VerdictLines task weights room)
verdict-lines-only task weights room = line-of-only (Checks task weights) (verdict_line (checked_spot task weights)) room (checks-only plain (judged_task task) weights)

-- The same for the program's answer.
abbrev pub FileLines : List ℕ → List ℕ → List ℕ → Outcome ℕ → Type 0
FileLines task weights = LineOf (ChecksFiles task weights) (verdict_line (files_spot task weights))

pub file-lines-only : (task weights room : List ℕ) → AtMostOne (FileLines task weights room)
file-lines-only task weights room =
    line-of-only (ChecksFiles task weights) (verdict_line (files_spot task weights)) room
    (if-only (too_long task weights) _ _ (is-only (refused (refusal Small))) (checks-only plain (judged_task task) weights))

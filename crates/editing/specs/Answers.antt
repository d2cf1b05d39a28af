-- What the answer of an edit says, and what an end is, in the words of the meaning.
use Rattle.std.specs.Prelude.{ℕ, List, Result, Ok, Err}
use Rattle.meaning.specs.Number.{refusal}
use Rattle.meaning.specs.Workspace.{start_at, goal_at}
use Rattle.meaning.specs.Answer.{Answer, done, refused, Edit, replace_start, replace_goal}
use Rattle.layout.specs.declared.Places.{Places}
use Rattle.number.specs.Answers.{reason_of}
use Rattle.number.specs.declared.Reason.{Reason}
use Rattle.editing.specs.declared.End.{End}
use Rattle.editing.specs.declared.End.TheVariants.{Start, Goal}

abbrev pub edited_of : Result (Unit {0}) Reason → Answer (Unit {0})
edited_of (Ok _) = done tt
edited_of (Err reason) = refused (refusal (reason_of reason))

-- The edit that gives an end other values.
abbrev pub replaced : End → List ℕ → Edit
replaced Start values = replace_start values
replaced Goal values = replace_goal values

-- Where an end's values begin, for v variables, and where a workspace's places say so.
abbrev pub end_at : End → ℕ → ℕ
end_at Start v = start_at v
end_at Goal v = goal_at v

abbrev pub place_of : End → Places → ℕ
place_of Start at = at.start
place_of Goal at = at.goal

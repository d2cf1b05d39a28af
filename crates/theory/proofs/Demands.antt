-- Of the customer's demands those theorems that rest on another one which a wrong answer is tried on: when finding refuses, and demand 3 on the tasks that a partial
-- file and a mended list give.
use Rattle.std.specs.Prelude.{ℕ, ◌<◌, ◌≡◌, Bool, length, take}
use Rattle.std.proofs.Common.{List}
use Rattle.meaning.specs.Limits.{number_end}
use Rattle.meaning.specs.Task.{Task}
use Rattle.meaning.specs.Number.{got}
use Rattle.meaning.specs.File.{task_bytes}
use Rattle.meaning.specs.Answer.{done, Opens, OpensAs, Finds}
use Rattle.meaning.specs.History.{Event, Edited, task_after, SameTask}
use Rattle.meaning.specs.Partial.{Partial, judged_partial}
use Rattle.meaning.specs.Mend.{Mends}
use Rattle.theory.specs.Determined.{finds-only}
use Rattle.theory.specs.Refusals.{FaultyIn, find_judged, RefusesExactly, refuses-exactly, finds-refused}
use Rattle.theory.specs.Demands.{Afresh, written-afresh}
use Rattle.theory.specs.PartialDemands.{built-accepted, opens-built}
use Rattle.theory.specs.MendingDemands.{mended-accepted, mended_task}

-- 9, then 8.
pub find-refuses : (workspace room : List ℕ) → RefusesExactly (Finds workspace room) room (FaultyIn workspace (find_judged room))
find-refuses workspace room = refuses-exactly (finds-only workspace room) (λ n left. finds-refused n left workspace room)

-- The finder, on a workspace that was opened from an accepted partial file.
module _ (partial : List ℕ) (out : Partial → ℕ → ℕ → Bool) (T : Task) (next : ℕ) (judged : judged_partial out partial ≡ got T next) where
  module _ (room workspace : List ℕ) (k : ℕ) (opens : OpensAs (judged_partial out partial) room (record { answer = done k; lent = workspace })) where
    -- The workspace, changed only by edits, refused ones among them, has the words and the answers of one that is opened afresh from the built task's file with these edits. "An edit of its
    -- workspace brings back none that were left out, so after one the answer speaks of the moves kept": U has the moves that the built task kept, and those that were added.
    pub partial-edited : (U : Task) (lent edited : List ℕ) (events : List Event) → take k lent ≡ take k workspace → Edited lent events edited → SameTask (task_after T events) U
        → length U.operators < number_end → Afresh (task_bytes U) edited k
    partial-edited U lent edited events begins edits same =
        written-afresh T U (task_bytes T) room workspace lent edited (length (task_bytes T)) k events (built-accepted partial out T next judged)
        ((opens-built partial out T next judged room _).0 opens) begins edits same

-- The finder, on a workspace that was opened from the file that `mend` left.
module _ (task room left : List ℕ) (k : ℕ) (mends : Mends task room (record { answer = done k; lent = left })) where
  module _ (space workspace : List ℕ) (due : ℕ) (opens : Opens (take k left) space (record { answer = done due; lent = workspace })) where
    -- The workspace, changed only by edits, refused ones among them, has the words and the answers of one that is opened afresh from the mended task's file with these edits.
    pub mended-edited : (U : Task) (lent edited : List ℕ) (events : List Event) → take due lent ≡ take due workspace → Edited lent events edited
        → SameTask (task_after (mended_task task room left k mends) events) U → length U.operators < number_end → Afresh (task_bytes U) edited due
    mended-edited U lent edited events begins edits same =
        written-afresh (mended_task task room left k mends) U (take k left) space workspace lent edited k due events (mended-accepted task room left k mends).accepted-as opens begins edits same

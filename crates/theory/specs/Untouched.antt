-- Which words an edit may touch: each word that is not its own it leaves as it was, further words too.
use Rattle.std.specs.Prelude.{ℕ, ◌<◌, ◌≤◌, ◌≡◌, ◌⊎◌, List, length, get_or}
use Rattle.meaning.specs.Feature.{features}
use Rattle.meaning.specs.Workspace.{start_at, goal_at, pairs_at, slots_at, words_due}
use Rattle.meaning.specs.Answer.{Edit, add_operator, replace_start, replace_goal}
use Rattle.theory.specs.Contents.{sizes_in}

-- A place outside the words that are an edit's own, for v variables and n features: those of the start, of the goal, or of the slots.
abbrev pub Outside : ℕ → ℕ → Edit → ℕ → Type 0
Outside v n (replace_start values) k = (k < start_at v) ⊎ (goal_at v ≤ k)
Outside v n (replace_goal values) k = (k < goal_at v) ⊎ (pairs_at v ≤ k)
Outside v n (add_operator r) k = (k < slots_at v n) ⊎ (words_due v n ≤ k)

-- The words after an edit: as many, and each that is not the edit's own as it was. v is the first word, and v sizes follow.
pub record Untouched (workspace : List ℕ) (edit : Edit) (lent : List ℕ) : Type 0 where
  pub as_many : length lent ≡ length workspace
  pub others : (k : ℕ) → Outside (get_or workspace 0 0) (features (sizes_in workspace)) edit k → get_or lent k 0 ≡ get_or workspace k 0

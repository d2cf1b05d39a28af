-- A workspace after a list of edits, refused ones among them, and what it then stands for.
use Rattle.std.specs.Prelude.{ℕ, ◌≡◌, ◌↔◌}
use mathlib.Core.List.{List, [], ◌∷◌, ◌++◌, Memᴰ as In}
use Rattle.meaning.specs.Task.{Operator, Task}
use Rattle.meaning.specs.Answer.{Answer, done, refused, Edit, add_operator, replace_start, replace_goal, operator_in, Edits}

-- An edit with the answer that it got.
pub record Event : Type 0 where
  pub edit : Edit
  pub answer : Answer (Unit {0})

-- "change it only by our edits (add a move, replace the start, replace the goal, refused edits among them)"
abbrev pub Edited : List ℕ → List Event → List ℕ → Type 0
Edited workspace [] end = workspace ≡ end
Edited workspace (e ∷ es) end =
    (next : List ℕ) × Edits workspace e.edit (record { answer = e.answer; lent = next }) × Edited next es end

-- The start after one edit: a new one only where the edit was accepted. The goal alike, and the moves.
abbrev pub start_after : List ℕ → Edit → Answer (Unit {0}) → List ℕ
start_after start (replace_start values) (done _) = values
start_after start (replace_start values) (refused _) = start
start_after start (replace_goal values) answer = start
start_after start (add_operator r) answer = start

abbrev pub goal_after : List ℕ → Edit → Answer (Unit {0}) → List ℕ
goal_after goal (replace_goal values) (done _) = values
goal_after goal (replace_goal values) (refused _) = goal
goal_after goal (replace_start values) answer = goal
goal_after goal (add_operator r) answer = goal

abbrev pub moves_after : List Operator → Edit → Answer (Unit {0}) → List Operator
moves_after moves (add_operator r) (done _) = moves ++ (operator_in r ∷ [])
moves_after moves (add_operator r) (refused _) = moves
moves_after moves (replace_start values) answer = moves
moves_after moves (replace_goal values) answer = moves

-- "the last accepted start and goal, and all its moves, the first task's with every one accepted since"
unfoldable pub task_after : Task → List Event → Task
task_after T [] = T
task_after T (e ∷ es) =
    task_after
    (record {
      sizes = T.sizes;
      start = start_after T.start e.edit e.answer;
      goal = goal_after T.goal e.edit e.answer;
      pairs = T.pairs;
      operators = moves_after T.operators e.edit e.answer;
    })
    es

-- Tasks alike but for the order of their operators and repeats: "listed in any order, repeats or not".
pub record SameTask (T U : Task) : Type 0 where
  pub sizes : T.sizes ≡ U.sizes
  pub start : T.start ≡ U.start
  pub goal : T.goal ≡ U.goal
  pub pairs : T.pairs ≡ U.pairs
  pub operators : (o : Operator) → In o T.operators ↔ In o U.operators

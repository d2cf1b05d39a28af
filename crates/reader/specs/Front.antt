-- What stands before the operators of a task file: its parser, the words that hold it, and that a task is read as this and then its operators.
use Rattle.std.specs.Prelude.{ℕ, ◌≡◌, Result, Ok, Err, List, ◌∷◌, ◌++◌, length}
use Rattle.meaning.specs.Limits.{least_size, most_size}
use Rattle.meaning.specs.Task.{Operator, Task}
use Rattle.meaning.specs.Feature.{atoms, features}
use Rattle.meaning.specs.Number.{Read, got, fault, number}
use Rattle.meaning.specs.File.{Parser, give, then, header, values_of, Kind, feature_list, operators_of, ended, body_of, parts_of}
use Rattle.theory.specs.Reading.{on-on}
use Rattle.number.specs.Answers.{fault_of}
use Rattle.number.specs.declared.Fault.{Fault}
use Rattle.reader.specs.declared.Header.{Header}
use Rattle.reader.specs.Answer.{begun, feature_words}

-- Sizes and start.
pub record Started : Type 0 where
  pub sizes : List ℕ
  pub start : List ℕ

abbrev pub started_with : List ℕ → List ℕ → Started
started_with sizes start = record { sizes = sizes; start = start }

unfoldable pub start_of : Parser Started
start_of = then (header least_size most_size) (λ sizes. then (values_of sizes) (λ start. give (started_with sizes start)))

-- With the goal.
pub record States : Type 0 where
  pub sizes : List ℕ
  pub start : List ℕ
  pub goal : List ℕ

abbrev pub states_with : Started → List ℕ → States
states_with started goal = record { sizes = started.sizes; start = started.start; goal = goal }

unfoldable pub states_of : Parser States
states_of = then start_of (λ started. then (values_of started.sizes) (λ goal. give (states_with started goal)))

-- With the pairs, and how many operators follow.
pub record Front : Type 0 where
  pub states : States
  pub pairs : List ℕ
  pub count : ℕ

-- What of a front stands behind its states, in every file of a kind.
unfoldable pub behind_states : Kind → States → Parser Front
behind_states kind states =
    then (feature_list kind (atoms states.sizes) (features states.sizes))
    (λ pairs. then number (λ count. give (record { states = states; pairs = pairs; count = count })))

unfoldable pub front_of : Kind → Parser Front
front_of kind = then states_of (behind_states kind)

-- ---- the words

unfoldable pub start_words : Started → List ℕ
start_words started = length started.sizes ∷ (started.sizes ++ started.start)

unfoldable pub state_words : States → List ℕ
state_words states = length states.sizes ∷ (states.sizes ++ (states.start ++ states.goal))

unfoldable pub front_words : Front → List ℕ
front_words front = state_words front.states ++ feature_words (features front.states.sizes) front.pairs

-- The counts of a front, with the place after it.
abbrev pub header_of : Front → ℕ → Header
header_of front next =
    record { variables = length front.states.sizes; features = features front.states.sizes; operators = front.count; next = next }

-- Where the front was read, the answer has its counts and the place after it, and the words left begin with those of the front.
unfoldable pub HeaderInto : Read Front → List ℕ → Result Header Fault → List ℕ → Type 0
HeaderInto (got front next) words answer left = (answer ≡ Ok (header_of front next)) × (left ≡ begun words (front_words front))
HeaderInto (fault reason place) words answer left = answer ≡ Err (fault_of reason place)

-- A task with this front.
abbrev pub task_with : Front → List Operator → Task
task_with front operators =
    record { sizes = front.states.sizes; start = front.states.start; goal = front.states.goal; pairs = front.pairs; operators = operators }

-- A task is read as its front, then as many operators as it says, and nothing follows.
pub task-front : (kind : Kind) (bytes : List ℕ) (place : ℕ) → parts_of kind bytes place
    ≡ then (front_of kind) (λ front. then (operators_of front.states.sizes front.count) (λ operators. then ended (λ _. give (task_with front operators)))) bytes place
unfolding parts_of body_of front_of states_of start_of behind_states
task-front kind bytes place = simp on-on

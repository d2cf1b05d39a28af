-- What stands before the operators of a partial task file: its parser, that a partial task is read as this and then its operators, and what is known of one that was read.
use Rattle.std.specs.Prelude.{ℕ, ◌<◌, ◌≤◌, ◌≡◌, length, replicate}
use mathlib.Core.List.{List, Memᴰ as In}
use Rattle.std.proofs.Common.{arith}
use Rattle.meaning.specs.Limits.{least_variables, most_variables, least_partial_size, most_partial_size, most_features}
use Rattle.meaning.specs.Task.{Operator, State, IsOperator, size}
use Rattle.meaning.specs.Feature.{features}
use Rattle.meaning.specs.Number.{got}
use Rattle.meaning.specs.File.{Parser, give, then, plain, values_of, operators_of, ended, InLimits}
use Rattle.meaning.specs.Partial.{Partial, Ordered, built_sizes, partial_header, marks_of, goal_of, partial_of}
use Rattle.theory.specs.Reading.{on-on}
use Rattle.theory.specs.Spent.{Gives, gives-known, gives_then, gives-map}
use Rattle.theory.specs.Parts.{values-said}
use Rattle.theory.specs.PartialFile.{partial-header-said, goal-said}
use Rattle.theory.specs.PartialParts.{features-built}
use Rattle.reader.specs.Front.{States, Front, behind_states}
use Rattle.reader.specs.States.{behind-said}

-- Sizes, marks and start: the marks stand where the goal goes.
abbrev pub marked_with : List ℕ → List ℕ → List ℕ → States
marked_with sizes marks start = record { sizes = sizes; start = start; goal = marks }

unfoldable pub marked_of : Parser States
marked_of = then partial_header (λ sizes. then (marks_of (length sizes)) (λ marks. then (values_of sizes) (λ start. give (marked_with sizes marks start))))

-- With the goal: the file's size where the order is silent.
abbrev pub named_with : States → List ℕ → States
named_with marked goal = record { sizes = marked.sizes; start = marked.start; goal = goal }

unfoldable pub partial_states_of : Parser States
partial_states_of = then marked_of (λ marked. then (goal_of marked.sizes marked.goal) (λ goal. give (named_with marked goal)))

-- With the pairs, by the file's own numbers, and how many operators follow.
unfoldable pub partial_front_of : Parser Front
partial_front_of = then partial_states_of (behind_states plain)

-- A partial task with this front.
abbrev pub partial_with : Front → List Operator → Partial
partial_with front operators =
    record { sizes = front.states.sizes; start = front.states.start; goal = front.states.goal; pairs = front.pairs; operators = operators }

-- A partial task is read as its front, then as many operators as it says, and nothing follows.
pub partial-front : (bytes : List ℕ) (place : ℕ) → partial_of bytes place
    ≡ then partial_front_of (λ front. then (operators_of front.states.sizes front.count) (λ operators. then ended (λ _. give (partial_with front operators)))) bytes place
unfolding partial_of partial_front_of partial_states_of marked_of behind_states
partial-front bytes place = simp on-on

-- ---- a front that was read

-- What is known of the sizes.
pub record Sized (sizes : List ℕ) : Type 0 where
  pub variables : (least_variables ≤ length sizes) × (length sizes ≤ most_variables)
  pub each : (i : ℕ) → i < length sizes → (least_partial_size ≤ size sizes i) × (size sizes i ≤ most_partial_size)
  pub total : features (built_sizes sizes) ≤ most_features

-- The file's own sizes are within the limits of a task too.
pub sized-limits : (sizes : List ℕ) → Sized sizes → InLimits sizes
sized-limits sizes known = record {
  variables = known.variables;
  each = λ i l. let k = known.each i l in (omega (arith, k.0), omega (arith, k.1));
  total = omega (arith, known.total, features-built sizes);
}

pub sizes-said : (bytes : List ℕ) → Gives bytes partial_header (λ sizes l. Sized sizes)
sizes-said bytes = gives-known _ (partial-header-said bytes) (λ sizes l a. record { variables = a.0; each = a.1; total = a.2 })

pub marked-said : (bytes : List ℕ)
    → Gives bytes marked_of (λ marked l. Sized marked.sizes × State marked.sizes marked.start × State (replicate (length marked.sizes) 2) marked.goal)
unfolding marked_of
marked-said bytes = gives_then _ _ (sizes-said bytes) (λ sizes l a. gives_then _ _ (values-said bytes (replicate (length sizes) 2)) (λ marks m c.
    gives-map (marked_with sizes marks) _ (values-said bytes sizes) (λ start n d. (a, d.0, c.0))))

pub partial-states-said : (bytes : List ℕ)
    → Gives bytes partial_states_of (λ states l. Sized states.sizes × State states.sizes states.start × State (built_sizes states.sizes) states.goal)
unfolding partial_states_of
partial-states-said bytes = gives_then _ _ (marked-said bytes) (λ marked l h. gives-map (named_with marked) _ (goal-said bytes marked.sizes marked.goal h.2) (λ goal m g. (h.0, h.1, g.0)))

-- Whatever operators follow: if they are in order, so is the partial task.
pub partial-front-said : (bytes : List ℕ)
    → Gives bytes partial_front_of (λ front l. (operators : List Operator) → ((o : Operator) → In o operators → IsOperator front.states.sizes o) → Ordered (partial_with front operators))
unfolding partial_front_of
partial-front-said bytes = gives_then _ _ (partial-states-said bytes) (λ states l h. behind-said plain bytes states _ (λ pairs count p operators fine.
    let a = h.0 in record { variables = a.variables; each = a.each; total = a.total; start = h.1; goal = h.2; pairs = p; operators = fine }))

pub front_ordered : (bytes : List ℕ) (from : ℕ) (front : Front) (at : ℕ) (operators : List Operator) → partial_front_of bytes from ≡ got front at
    → ((o : Operator) → In o operators → IsOperator front.states.sizes o) → Ordered (partial_with front operators)
front_ordered bytes from front at operators e = ((partial-front-said bytes).gives from front at e).known operators

pub ordered-limits : (P : Partial) → Ordered P → InLimits P.sizes
ordered-limits P ok = sized-limits P.sizes (record { variables = ok.variables; each = ok.each; total = ok.total })

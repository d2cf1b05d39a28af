-- An accepted task, of a task file or built for a partial one: its operators are those that are read and, if it forgets, the forgetting ones that are kept.
use Rattle.std.specs.Prelude.{ℕ, ◌<◌, ◌≡◌, Bool, true, false, cond, List, [], ◌++◌, length, Ok}
use Rattle.std.proofs.Common.{sym, ap, ◌∙◌, append-nil, arith, length-append}
use Rattle.meaning.specs.Limits.{number_end}
use Rattle.meaning.specs.Sets.{Set, listed}
use Rattle.meaning.specs.Task.{Operator, Task}
use Rattle.meaning.specs.Number.{Read, got}
use Rattle.meaning.specs.File.{operators_of, judged_task}
use Rattle.meaning.specs.Workspace.{has}
use Rattle.meaning.specs.Partial.{judged_partial}
use Rattle.theory.specs.PartialParts.{out_for}
use Rattle.layout.specs.Parts.{sizes_part, goal_part, pairs_part}
use Rattle.reader.specs.declared.Header.{Header}
use Rattle.forgetting.specs.Kept.{kept_in, built-operators}
use Rattle.task.specs.Answer.{KnownAs, known-parts, JudgedInto, judged-accepted}
use Rattle.order.specs.declared.Judged.{Judged}
use Rattle.order.specs.Answer.{PartialInto}

-- The operators that follow those of a file: the forgetting ones that are kept, or none.
abbrev pub following : List ℕ → Set → List ℕ → Bool → List Operator
following sizes pairs goal forgets = cond forgets (kept_in sizes pairs goal false) []

pub record KnownWith (judging : Read Task) (bytes words left : List ℕ) (h : Header) (forgets : Bool) : Type 0 where
  pub accepted : KnownAs judging words left h.variables h.features
  pub operators : List Operator
  pub next : ℕ
  pub many : h.operators ≡ length operators
  pub read : operators_of accepted.task.sizes h.operators bytes h.next ≡ got operators next
  pub all : accepted.task.operators ≡ operators ++ following accepted.task.sizes (listed accepted.task.pairs) accepted.task.goal forgets

module _ (bytes words left : List ℕ) where
  -- A task file's, and that of the task that is built for a partial file.
  pub task-with : (h : Header) → JudgedInto (judged_task bytes) bytes words (Ok h) left → KnownWith (judged_task bytes) bytes words left h false
  task-with h into = let known = judged-accepted bytes words left h into in record {
    accepted = known.accepted;
    operators = known.accepted.task.operators;
    next = known.accepted.next;
    many = known.many;
    read = known.operators;
    all = sym (append-nil _);
  }

  pub partial-with : (judged : Judged) → PartialInto false bytes words (Ok judged) left → KnownWith (judged_partial (out_for false) bytes) bytes words left judged.header true
  partial-with judged known = record {
    accepted = known.accepted;
    operators = known.partial.operators;
    next = known.accepted.next;
    many = known.many;
    read = known.operators;
    all = rw known.built (built-operators known.partial known.ordered false);
  }

module _ {judging : Read Task} {bytes words left : List ℕ} {h : Header} {forgets : Bool} (known : KnownWith judging bytes words left h forgets) where
  pub with-few : h.operators < number_end
  with-few = omega (arith, known.many, known.accepted.writable.countable, ap length known.all ∙ length-append known.operators _)

  -- By the parts of the header, as they are lent.
  pub with-all : (sizes goal pairs : List ℕ) → sizes ≡ sizes_part h.variables left → goal ≡ goal_part h.variables left → pairs ≡ pairs_part h.variables h.features left
      → known.accepted.task.operators ≡ known.operators ++ following sizes (has pairs) goal forgets
  with-all sizes goal pairs sizes-are goal-is pairs-are = let parts = known-parts known.accepted in
      rw (sizes-are ∙ parts.0, ap has pairs-are ∙ parts.3, goal-is ∙ parts.2) known.all

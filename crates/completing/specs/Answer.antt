-- What is built for an accepted partial file, by its file, the header of the built task and its counts.
use Rattle.std.specs.Prelude.{ℕ, ◌+◌, ◌*◌, ◌≤◌, ◌≡◌, refl, Bool, length, drop}
use Rattle.std.proofs.Common.{sym, ◌∙◌, arith, length-append}
use Rattle.std.proofs.Math.Path.{ap, ap₂}
use mathlib.Core.List.{List, ◌++◌}
use Rattle.meaning.specs.Sets.{listed}
use Rattle.meaning.specs.Task.{Operator, Task, State}
use Rattle.meaning.specs.Feature.{atoms, features}
use Rattle.meaning.specs.Number.{number_bytes}
use Rattle.meaning.specs.File.{plain, bytes_of, counted, operator_bytes, task_bytes}
use Rattle.meaning.specs.Workspace.{has}
use Rattle.meaning.specs.Answer.{Outcome, delivered}
use Rattle.meaning.specs.Partial.{Partial, forgettings, built_task, BuildsBy}
use Rattle.theory.specs.Spent.{Bytes}
use Rattle.theory.specs.Parts.{operators-said}
use Rattle.theory.specs.BytesOf.{bytes-join}
use Rattle.theory.specs.PartialFile.{accepted-partial}
use Rattle.theory.specs.PartialParts.{operators-copied, forgettings-width, out_for}
use Rattle.words.specs.Members.{members_in, members-are}
use Rattle.layout.specs.Parts.{sizes_part, start_part, goal_part, pairs_part}
use Rattle.pairs.specs.Ready.{Listed}
use Rattle.forgetting.specs.Kept.{kept_in, kept-forgettings}
use Rattle.task.specs.Answer.{known-parts, known-ready}
use Rattle.order.specs.Answer.{KnownPartial}
use Rattle.writer.specs.Front.{front_bytes, task-front, sizes-countable, state-countable}
use Rattle.completing.specs.Parts.{kept_bytes, operators_bytes, BuiltParts, built_bytes}

module _ (lean : Bool) (bytes words left : List ℕ) (v n count kept at : ℕ) (known : KnownPartial lean bytes words left v n count kept at) where
  abbrev T : Task
  T = known.accepted.task

  abbrev P : Partial
  P = known.partial

  abbrev forgotten : List Operator
  forgotten = forgettings P.sizes (out_for lean P)

  all-operators : T.operators ≡ P.operators ++ forgotten
  unfolding built_task
  all-operators = ap (λ U. U.operators) known.built

  all-counted : length T.operators ≡ count + kept
  all-counted = ap length all-operators ∙ length-append P.operators forgotten ∙ ap₂ ◌+◌ (sym known.many) (sym known.forgotten)

  -- The operators begin within the file.
  pub at-within : at ≤ length bytes
  at-within =
      let read = (operators-said bytes T.sizes count).gives at P.operators known.accepted.next known.operators in
      omega (arith, read.moved, (accepted-partial bytes (out_for lean) T known.accepted.next known.accepted.judged).end)

  -- The header's parts, as they are lent.
  module _ (sizes start goal pairs : List ℕ) (sizes-are : sizes ≡ sizes_part v left) (start_is : start ≡ start_part v left) (goal-is : goal ≡ goal_part v left) (pairs-are : pairs ≡ pairs_part v n left) where
    ready : Listed sizes pairs × State sizes start × State sizes goal
    ready = rw (sizes-are, start_is, goal-is, pairs-are) (known-ready known.accepted)

    task-sizes : sizes ≡ T.sizes
    task-sizes = sizes-are ∙ (known-parts known.accepted).0

    task-pairs : has pairs ≡ listed T.pairs
    task-pairs = ap has pairs-are ∙ (known-parts known.accepted).3

    task-goal : goal ≡ T.goal
    task-goal = goal-is ∙ (known-parts known.accepted).2

    pairs-members : members_in pairs ≡ T.pairs
    pairs-members = members-are (atoms T.sizes) (features T.sizes) T.pairs pairs known.accepted.writable.acceptable.pairs task-pairs

    -- The forgetting operators that the header keeps are the request's.
    kept-operators : kept_in sizes (has pairs) goal lean ≡ forgotten
    unfolding built_task
    kept-operators =
        rw (task-sizes ∙ ap (λ U. U.sizes) known.built, task-pairs ∙ ap (λ U. listed U.pairs) known.built, task-goal ∙ ap (λ U. U.goal) known.built)
        (kept-forgettings P known.ordered lean)

    kept-bytes : kept_bytes sizes pairs goal lean ≡ bytes_of operator_bytes forgotten
    unfolding kept_bytes
    kept-bytes = ap (bytes_of operator_bytes) kept-operators

    pub built-parts : BuiltParts count kept sizes start goal pairs lean
    built-parts = let limits = ready.0.limits in record {
      front = (sizes-countable sizes limits, state-countable sizes start limits ready.1, state-countable sizes goal limits ready.2, omega (arith, ready.0.due, limits.total));
      ready = ready.0;
      is-goal = ready.2;
      countable = omega (arith, all-counted, known.accepted.writable.countable);
      width = ap length kept-bytes ∙ forgettings-width P.sizes (out_for lean P) known.ordered.variables.1 (λ i l. (known.ordered.each i l).1) ∙ ap (λ k. k * 4) (sym known.forgotten);
    }

    module _ (small : Bytes bytes) where
      operators-split : counted operator_bytes T.operators ≡ operators_bytes (count + kept) (drop at bytes) sizes pairs goal lean
      unfolding counted operators_bytes
      operators-split =
          ap₂ (λ k l. number_bytes k ++ l) all-counted (ap (bytes_of operator_bytes) all-operators ∙ bytes-join operator_bytes P.operators forgotten)
          ∙ ap₂ (λ own more. number_bytes (count + kept) ++ (own ++ more))
          (sym (operators-copied bytes T.sizes count at P.operators known.accepted.next small known.operators known.end)) (sym kept-bytes)

      front_same : front_bytes plain T.sizes T.start T.goal T.pairs ≡ front_bytes plain sizes start goal (members_in pairs)
      front_same = rw (pairs-members, task-sizes, start_is ∙ (known-parts known.accepted).1, task-goal) refl

      file-split : task_bytes T ≡ built_bytes count kept (drop at bytes) sizes start goal pairs lean
      unfolding built_bytes
      file-split = task-front plain T ∙ ap₂ ◌++◌ front_same operators-split

      -- What the code comes to is the built task's file.
      pub built-so : (own room : List ℕ) (outcome : Outcome ℕ) → own ≡ drop at bytes → outcome ≡ delivered (built_bytes count kept own sizes start goal pairs lean) room
          → BuildsBy (out_for lean) bytes room outcome
      built-so own room outcome q e =
          rw known.accepted.judged (e ∙ ap (λ rest. delivered (built_bytes count kept rest sizes start goal pairs lean) room) q ∙ ap (λ file. delivered file room) (sym file-split))

-- An accepted task: its workspace, once the rows of the operators that are read and of the forgetting ones that are kept are inserted.
use Rattle.std.specs.Prelude.{ℕ, ◌-◌, ◌≤◌, ◌≡◌, refl, Bool, length, take, drop, replicate}
use Rattle.std.proofs.Common.{ap, ◌∙◌}
use Rattle.std.proofs.Math.Path.{sym}
use mathlib.Core.List.{List, ◌++◌, foldl, foldl-append}
use Rattle.meaning.specs.Task.{Task, State}
use Rattle.meaning.specs.Number.{Read}
use Rattle.meaning.specs.Workspace.{has, words_for, slots_at, words_due}
use Rattle.meaning.specs.Answer.{done, OpensAs}
use Rattle.layout.specs.Parts.{sizes_part, goal_part, pairs_part}
use Rattle.reader.specs.declared.Header.{Header}
use Rattle.pairs.specs.Ready.{Listed}
use Rattle.condition.specs.Slotted.{with_rows}
use Rattle.task.specs.Answer.{known-parts, known-ready}
use Rattle.order.specs.With.{following, KnownWith, with-all}
use Rattle.opening.specs.Adding.{Sized, added_from}
use Rattle.opening.specs.Begin.{begun_sized, begun-blank, begun-added, begun-rows, opens-done}
use Rattle.opening.specs.Later.{Blank}

module _ (judging : Read Task) (bytes old parts room : List ℕ) (h : Header) (forgets : Bool) (known : KnownWith judging bytes old parts h forgets) where
  abbrev v : ℕ
  v = h.variables

  abbrev n : ℕ
  n = h.features

  -- The workspace that was begun, and the parts of the header as they are lent.
  module _ (due slots : ℕ) (ws : List ℕ) (due-is : due ≡ words_due v n) (slots-is : slots ≡ slots_at v n)
      (made : ws ≡ take slots parts ++ (replicate (due - length (take slots parts)) 0 ++ drop due room))
      (sizes pairs goal : List ℕ) (sizes-are : sizes ≡ sizes_part v parts) (pairs-are : pairs ≡ pairs_part v n parts) (goal-is : goal ≡ goal_part v parts) where
    sized : Sized v n known.accepted.task.sizes ws
    sized = begun_sized judging old parts room v n known.accepted due slots ws due-is slots-is made

    pub accepted-ready : (full pending : List ℕ) → full ≡ replicate (words_for n) 0 → pending ≡ replicate (words_for n) 0
        → Blank v n full pending ws × Sized v n sizes ws × Listed sizes pairs × State sizes goal
    accepted-ready full pending f p = let ready = known-ready known.accepted in (
      record {
        workable = sized.workable;
        empty = begun-blank judging old parts room v n known.accepted due slots ws due-is slots-is made;
        full-none = f;
        pending-none = p;
      },
      rw (sizes-are ∙ (known-parts known.accepted).0) sized,
      rw (sizes-are, pairs-are) ready.0,
      rw (sizes-are, goal-is) ready.2,
    )

    -- With the rows of the operators that are read and then of those that follow it is the task's workspace.
    pub accepted-opened : due ≤ length room → (exit : List ℕ) → exit ≡ foldl (with_rows v n) (added_from v n h.operators bytes h.next ws) (following sizes (has pairs) goal forgets)
        → OpensAs judging room (record { answer = done due; lent = exit })
    accepted-opened l exit e =
        opens-done judging old parts room v n known.accepted due exit due-is l (begun-rows judging old parts room v n known.accepted due slots ws due-is slots-is made exit rows)
      where
        first : added_from v n h.operators bytes h.next ws ≡ foldl (with_rows v n) ws known.operators
        first = begun-added judging old parts room v n known.accepted due slots ws due-is slots-is made bytes h.operators h.next _ _ known.read (added_from v n h.operators bytes h.next ws) refl

        rows : exit ≡ foldl (with_rows v n) ws known.accepted.task.operators
        rows = e ∙ ap (λ l. foldl (with_rows v n) l (following sizes (has pairs) goal forgets)) first
            ∙ sym (ap (foldl (with_rows v n) ws) (with-all known sizes goal pairs sizes-are goal-is pairs-are)
            ∙ foldl-append (with_rows v n) ws known.operators (following sizes (has pairs) goal forgets))

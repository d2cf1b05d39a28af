-- One operator that was read, and the workspace with its rows inserted.
use Rattle.std.specs.Prelude.{ℕ, ◌≡◌, List, Ok, Err}
use Rattle.std.proofs.Common.{sym}
use Rattle.meaning.specs.Number.{got}
use Rattle.meaning.specs.File.{operator_of}
use Rattle.meaning.specs.Task.{Operator}
use Rattle.layout.specs.Parts.{sizes_part, Due}
use Rattle.number.specs.Answers.{place_of, place-fault, faulted}
use Rattle.number.specs.declared.Fault.{Fault}
use Rattle.operator.specs.Known.{operator-is}
use Rattle.operator.specs.Fold.{walked, walk-unread}
use Rattle.pairs.specs.Ready.{ready-is}
use Rattle.condition.specs.Slotted.{Opened, with_rows}
use Rattle.condition.specs.Holds.{held-due, held-listed, held-opened}
use Rattle.opening.specs.Adding.{Workable, added_from}

module _ (v n : ℕ) (ws : List ℕ) (h : Workable v n ws) where
  pub work-due : Due v n ws
  work-due = held-due v n h.0 h.1 ws h.2

  -- By the sizes that were lent.
  module _ (bytes : List ℕ) (at : ℕ) (lent : List ℕ) (lent-are : lent ≡ sizes_part v ws) where
    module _ (o : Operator) (next : ℕ) (told : operator_of lent bytes at ≡ got o next) where
      read : operator_of (sizes_part v ws) bytes at ≡ got o next
      read = rw (← lent-are) told

      pub step-opened : Opened v n ws o
      step-opened = held-opened v n h.0 h.1 ws h.2 o (ready-is (held-listed v n h.0 h.1 ws h.2) (operator-is (sizes_part v ws) bytes at o next read))

      pub step-place : Ok next ≡ place_of (operator_of (sizes_part v ws) bytes at)
      step-place = rw read

      pub step-rows : (left : List ℕ) → left ≡ with_rows v n ws o → left ≡ added_from v n 1 bytes at ws
      unfolding walked
      step-rows left q = rw read q

    module _ (f : Fault) (told : operator_of lent bytes at ≡ faulted f) where
      unread : operator_of (sizes_part v ws) bytes at ≡ faulted f
      unread = rw (← lent-are) told

      pub fault-place : Err f ≡ place_of (operator_of (sizes_part v ws) bytes at)
      fault-place = sym (place-fault (operator_of (sizes_part v ws) bytes at) f unread)

      pub fault-rows : ws ≡ added_from v n 1 bytes at ws
      fault-rows = sym (walk-unread (with_rows v n) (sizes_part v ws) bytes 1 0 at ws _ _ unread)

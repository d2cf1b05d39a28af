-- A workspace whose slots are empty and into which rows are inserted later: nothing is pending at first.
use Rattle.std.specs.Prelude.{ℕ, ◌≡◌, false, List, length, replicate}
use Rattle.std.proofs.Common.{sym, ◌∙◌}
use Rattle.std.proofs.lemmas.List.{length-replicate}
use Rattle.meaning.specs.Workspace.{words_for}
use Rattle.words.specs.Part.{has-none}
use Rattle.slots.specs.Waiting.{Indexes}
use Rattle.condition.specs.Slotted.{held_slots}
use Rattle.condition.specs.Later.{Kept, settled_as, none_kept, none-as}
use Rattle.condition.specs.Holds.{held-due, held-shape, held-filled}
use Rattle.opening.specs.Adding.{Workable}

-- A workspace that holds some content with empty slots, and two sets with no member.
pub record Blank (v n : ℕ) (full pending ws : List ℕ) : Type 0 where
  pub workable : Workable v n ws
  pub empty : (i : ℕ) → held_slots v n ws i i ≡ false
  pub full-none : full ≡ replicate (words_for n) 0
  pub pending-none : pending ≡ replicate (words_for n) 0

module _ {v n : ℕ} {full pending ws : List ℕ} (blank : Blank v n full pending ws) where
  full-long : length full ≡ words_for n
  full-long = rw blank.full-none (length-replicate (words_for n) 0)

  full-are : Indexes (held_slots v n ws) full
  full-are i = rw blank.full-none (has-none (words_for n) i) ∙ sym (blank.empty i)

  pub blank-kept : Kept v n full pending ws
  blank-kept = let (c, further, held) = blank.workable in let due = held-due v n c further ws held in
      none_kept v n full pending ws due.features due.words (held-shape v n c further ws held) full-long full-are blank.pending-none

  pub blank-as : settled_as v n pending ws ≡ ws
  blank-as = let (c, further, held) = blank.workable in let due = held-due v n c further ws held in
      none-as v n full pending ws due.features due.words (held-shape v n c further ws held) full-long full-are blank.pending-none (held-filled v n c further ws held)

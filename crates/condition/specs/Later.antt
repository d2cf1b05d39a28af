-- A workspace of which some slots are pending: what it is once they are settled.
use Rattle.std.specs.Prelude.{ℕ, ◌*◌, ◌≤◌, ◌≡◌, false, List, [], length, replicate}
use Rattle.std.proofs.Math.Path.{ap}
use Rattle.std.proofs.Common.{sym, ◌∙◌, arith}
use Rattle.std.proofs.lemmas.List.{length-replicate}
use Rattle.meaning.specs.Sets.{Slots}
use Rattle.meaning.specs.Task.{Operator}
use Rattle.meaning.specs.Feature.{features}
use Rattle.meaning.specs.Slot.{Reduced}
use Rattle.meaning.specs.Limits.{most_features}
use Rattle.meaning.specs.Workspace.{has, words_for, sizes_at, pairs_at, slots_at, words_due}
use Rattle.theory.specs.Contents.{slot_words, length-slots}
use Rattle.theory.specs.InsertAll.{insert_all}
use Rattle.theory.specs.Rows.{rows_of}
use Rattle.theory.specs.Postponed.{settled-reduced, settled-index, settled-none, reduced-part}
use Rattle.words.specs.Part.{has-none}
use Rattle.pairs.specs.Ready.{Ready}
use Rattle.slots.specs.Waiting.{Indexes, Waiting, settled_in}
use Rattle.layout.specs.Parts.{sizes_part, pairs_part, slots_part, Due, length_part}
use Rattle.condition.specs.Slotted.{held_slots, area_put, slotted, with_rows, Opened, opened-due, put-long, put-area, put-again, put-part, area-slotted, held-slotted, own_put, rows_none}

-- The workspace once its slots are settled.
unfoldable pub settled_as : ℕ → ℕ → List ℕ → List ℕ → List ℕ
settled_as v n pending ws = slotted v n ws (settled_in n pending (slots_part v n ws))

-- A workspace with the indices of its slots that are not empty, and of those that are pending.
pub record Kept (v n : ℕ) (full pending ws : List ℕ) : Type 0 where
  pub due : words_due v n ≤ length ws
  pub waiting : Waiting n full pending (slots_part v n ws)

-- A workspace that is ready for the rows of an operator.
pub record Rowed (v n : ℕ) (ws : List ℕ) (o : Operator) : Type 0 where
  pub counted : n ≡ features (sizes_part v ws)
  pub ready : Ready (sizes_part v ws) (pairs_part v n ws) o

-- Its words are all there, and few enough to count.
pub kept-due : {v n : ℕ} {full pending ws : List ℕ} {o : Operator} → Kept v n full pending ws → Rowed v n ws o → Due v n ws
kept-due {v = v} {ws = ws} kept rowed = record {
  variables = omega (arith, length_part sizes_at v ws (omega (arith, kept.due)), rowed.ready.limits.variables);
  features = kept.waiting.few;
  words = kept.due;
}

-- ---- once it is settled

module _ {v n : ℕ} {full pending ws : List ℕ} (kept : Kept v n full pending ws) where
  abbrev slots : Slots
  slots = settled_in n pending (slots_part v n ws)

  settled-long : length (settled_as v n pending ws) ≡ length ws
  unfolding settled_as
  settled-long = put-long v n ws kept.due (slot_words n slots) (length-slots n slots)

  settled-due : words_due v n ≤ length (settled_as v n pending ws)
  settled-due = omega (arith, kept.due, settled-long)

  pub settled-sizes : sizes_part v (settled_as v n pending ws) ≡ sizes_part v ws
  unfolding settled_as
  settled-sizes = put-part v n ws kept.due (slot_words n slots) (length-slots n slots) sizes_at v (omega arith)

  pub settled-pairs : pairs_part v n (settled_as v n pending ws) ≡ pairs_part v n ws
  unfolding settled_as
  settled-pairs = put-part v n ws kept.due (slot_words n slots) (length-slots n slots) (pairs_at v) (words_for n) (omega arith)

  settled-held : held_slots v n (settled_as v n pending ws) ≡ slots
  unfolding settled_as
  settled-held = held-slotted v n ws kept.due slots (settled-reduced kept.waiting.part)

  settled-shape : Reduced n (held_slots v n (settled_as v n pending ws))
  settled-shape = rw settled-held (settled-reduced kept.waiting.part)

  settled-area : slots_part v n (settled_as v n pending ws) ≡ slot_words n slots
  unfolding settled_as
  settled-area = area-slotted v n ws kept.due slots

  settled-filled : slots_part v n (settled_as v n pending ws) ≡ slot_words n (held_slots v n (settled_as v n pending ws))
  settled-filled = settled-area ∙ ap (slot_words n) (sym settled-held)

  settled-again : (area : List ℕ) → area_put v n (settled_as v n pending ws) area ≡ area_put v n ws area
  unfolding settled_as
  settled-again area = put-again v n ws kept.due (slot_words n slots) (length-slots n slots) area

  -- ---- the rows of an operator

  -- Ready for them as it is once it is settled.
  pub settled-rowed : {o : Operator} → Opened v n (settled_as v n pending ws) o → Rowed v n ws o
  settled-rowed opened = record { counted = rw settled-sizes at opened.counted; ready = rw (settled-sizes, settled-pairs) at opened.ready }

  -- It has none.
  pub later-none : (o : Operator) → rows_of (sizes_part v ws) (has (pairs_part v n ws)) o ≡ [] → settled_as v n pending ws ≡ with_rows v n (settled_as v n pending ws) o
  later-none o e = rows_none v n (settled_as v n pending ws) settled-due o settled-filled (rw (settled-sizes, settled-pairs) e)

  -- They are inserted into the area.
  module _ (full' pending' area ws' : List ℕ) (waiting : Waiting n full' pending' area) (written : ws' ≡ area_put v n ws area) where
    pub later-kept : Kept v n full' pending' ws'
    later-kept = rw written (record { due = omega (arith, kept.due, put-long v n ws kept.due area waiting.long); waiting = rw (put-area v n ws kept.due area waiting.long) waiting })

    later-as : settled_as v n pending' ws' ≡ slotted v n ws (settled_in n pending' area)
    unfolding settled_as
    later-as = rw (written, put-area v n ws kept.due area waiting.long) (put-again v n ws kept.due area waiting.long (slot_words n (settled_in n pending' area)))

    pub later_rows : (o : Operator) → settled_in n pending' area ≡ insert_all n slots (rows_of (sizes_part v ws) (has (pairs_part v n ws)) o)
        → settled_as v n pending' ws' ≡ with_rows v n (settled_as v n pending ws) o
    unfolding with_rows
    later_rows o e = later-as ∙ ap (slotted v n ws) e
        ∙ rw (settled-held, settled-sizes, settled-pairs) (sym (settled-again (slot_words n (insert_all n slots (rows_of (sizes_part v ws) (has (pairs_part v n ws)) o)))))

-- ---- nothing is pending

module _ (v n : ℕ) (full pending ws : List ℕ) (few : n ≤ most_features) (due : words_due v n ≤ length ws) (shape : Reduced n (held_slots v n ws)) (full-long : length full ≡ words_for n)
    (full-are : Indexes (held_slots v n ws) full) (none : pending ≡ replicate (words_for n) 0) where
  clear : (i : ℕ) → has pending i ≡ false
  clear i = rw none (has-none (words_for n) i)

  pub none_kept : Kept v n full pending ws
  none_kept = record {
    due = due;
    waiting = record {
      few = few;
      long = length_part (slots_at v n) (n * words_for n) ws (omega arith);
      full-long = full-long;
      pending-long = rw none (length-replicate (words_for n) 0);
      full-are = full-are;
      part = reduced-part n (has pending) (held_slots v n ws) clear shape;
    };
  }

  pub none-as : slots_part v n ws ≡ slot_words n (held_slots v n ws) → settled_as v n pending ws ≡ ws
  unfolding settled_as
  none-as filled = ap (slotted v n ws) (settled-none n (has pending) (held_slots v n ws) clear) ∙ ap (area_put v n ws) (sym filled) ∙ own_put v n ws due

-- A workspace that is ready for an operator's rows.
module _ {v n : ℕ} {ws : List ℕ} {o : Operator} (opened : Opened v n ws o) (full pending : List ℕ) (full-long : length full ≡ words_for n)
    (full-are : Indexes (held_slots v n ws) full) (none : pending ≡ replicate (words_for n) 0) where
  pub opened-kept : Kept v n full pending ws
  opened-kept = none_kept v n full pending ws (opened-due opened).features opened.due opened.reduced full-long full-are none

  pub opened-as : settled_as v n pending ws ≡ ws
  opened-as = none-as v n full pending ws (opened-due opened).features opened.due opened.reduced full-long full-are none opened.filled

-- The workspace after a call that settled its area.
pub settled-written : (v n : ℕ) (pending ws area ws' : List ℕ) → ws' ≡ area_put v n ws area → area ≡ slot_words n (settled_in n pending (slots_part v n ws)) → ws' ≡ settled_as v n pending ws
unfolding settled_as
settled-written v n pending ws area ws' e q = e ∙ ap (area_put v n ws) q

-- Settled, it is what it was to be.
module _ {v n : ℕ} {full pending ws : List ℕ} (kept : Kept v n full pending ws) (none ws' : List ℕ) (is : ws' ≡ settled_as v n pending ws) (none_is : none ≡ replicate (words_for n) 0) where
  full-still : Indexes (held_slots v n ws') full
  full-still i = kept.waiting.full-are i ∙ sym (ap (λ S. S i i) (ap (held_slots v n) is ∙ settled-held kept) ∙ settled-index kept.waiting.part i)

  pub again_kept : Kept v n full none ws'
  again_kept = none_kept v n full none ws' kept.waiting.few (rw is (settled-due kept)) (rw is (settled-shape kept)) kept.waiting.full-long full-still none_is

  pub again-as : settled_as v n none ws' ≡ settled_as v n pending ws
  again-as = none-as v n full none ws' kept.waiting.few (rw is (settled-due kept)) (rw is (settled-shape kept)) kept.waiting.full-long full-still none_is (rw is (settled-filled kept)) ∙ is

-- A workspace for v variables and n features while rows are inserted into its slots: the parts that rows are made from stay, and so do the further words.
use Rattle.std.specs.Prelude.{ℕ, ◌+◌, ◌-◌, ◌*◌, ◌≤◌, ◌≡◌, List, [], ◌∷◌, ◌++◌, length, take, drop}
use Rattle.std.proofs.Math.Path.{refl, sym}
use Rattle.std.proofs.Common.{ap, ap₂, ◌∙◌, arith, length-append, length-drop, take-append-drop, length-take-le, take_at, drop_at, drop-drop}
use Rattle.std.proofs.lemmas.List.{take-append-le, drop-append-le}
use Rattle.meaning.specs.Sets.{Set, Slots}
use Rattle.meaning.specs.Task.{Operator}
use Rattle.meaning.specs.Feature.{features}
use Rattle.meaning.specs.Slot.{Reduced}
use Rattle.meaning.specs.Workspace.{has, words_for, sizes_at, slots_at, words_due}
use Rattle.theory.specs.Contents.{slot_words, length-slots}
use Rattle.theory.specs.Insert.{insert}
use Rattle.theory.specs.InsertAll.{insert_all}
use Rattle.theory.specs.Rows.{rows_of}
use Rattle.pairs.specs.Ready.{Ready}
use Rattle.slots.specs.Area.{slots_in, area-back}
use Rattle.slots.specs.Waiting.{Waiting, settled_in}
use Rattle.layout.specs.declared.Places.{Places}
use Rattle.layout.specs.Places.{places_of, places-are}
use Rattle.layout.specs.Parts.{sizes_part, pairs_part, slots_part, Due, length_part}

abbrev pub held_slots : ℕ → ℕ → List ℕ → Slots
held_slots v n ws = slots_in n (slots_part v n ws)

-- The workspace with other words in place of its slots', and with other slots in their place.
abbrev pub area_put : ℕ → ℕ → List ℕ → List ℕ → List ℕ
area_put v n ws area = take (slots_at v n) ws ++ (area ++ drop (words_due v n) ws)

abbrev pub slotted : ℕ → ℕ → List ℕ → Slots → List ℕ
slotted v n ws slots = area_put v n ws (slot_words n slots)

-- The workspace with the rows of an operator inserted.
unfoldable pub with_rows : ℕ → ℕ → List ℕ → Operator → List ℕ
with_rows v n ws o = slotted v n ws (insert_all n (held_slots v n ws) (rows_of (sizes_part v ws) (has (pairs_part v n ws)) o))

-- A workspace that an operator's rows can be inserted into.
pub record Opened (v n : ℕ) (ws : List ℕ) (o : Operator) : Type 0 where
  pub counted : n ≡ features (sizes_part v ws)
  pub due : words_due v n ≤ length ws
  pub ready : Ready (sizes_part v ws) (pairs_part v n ws) o
  pub filled : slots_part v n ws ≡ slot_words n (held_slots v n ws)
  pub reduced : Reduced n (held_slots v n ws)

-- Its words are all there, and few enough to count.
pub opened-due : {v n : ℕ} {ws : List ℕ} {o : Operator} → Opened v n ws o → Due v n ws
opened-due {v = v} {ws = ws} opened = record {
  variables = omega (arith, length_part sizes_at v ws (omega (arith, opened.due)), opened.ready.limits.variables);
  features = omega (arith, opened.counted, opened.ready.limits.total);
  words = opened.due;
}

-- Its slots, by their places, are within its words.
pub slots-within : (v n : ℕ) (at : Places) → at ≡ places_of v n → (ws : List ℕ) → words_due v n ≤ length ws → (at.slots ≤ at.end) × (at.end ≤ length ws)
slots-within v n at is ws due = let e = places-are v n at is in (omega (arith, e), omega (arith, e, due))

-- ---- where slots are written

front-part : (front rest : List ℕ) (from k : ℕ) → from + k ≤ length front → take k (drop from (front ++ rest)) ≡ take k (drop from front)
front-part front rest from k l = rw (drop-append-le from front rest (omega arith)) (take-append-le k (drop from front) rest (rw (length-drop from front) (omega arith)))

module _ (v n : ℕ) (ws : List ℕ) (due : words_due v n ≤ length ws) where
  front_long : length (take (slots_at v n) ws) ≡ slots_at v n
  front_long = length-take-le (slots_at v n) ws (omega arith)

  -- Other words in place of the slots'.
  module _ (area : List ℕ) (e : length area ≡ n * words_for n) where
    pub put-long : length (area_put v n ws area) ≡ length ws
    put-long = rw (length-append (take (slots_at v n) ws) (area ++ drop (words_due v n) ws), length-append area (drop (words_due v n) ws), length-drop (words_due v n) ws) (omega (arith, front_long, e))

    pub put-area : slots_part v n (area_put v n ws area) ≡ area
    put-area = rw (drop_at (take (slots_at v n) ws) (area ++ drop (words_due v n) ws) (slots_at v n) front_long) (take_at area _ (n * words_for n) e)

    put-further : drop (words_due v n) (area_put v n ws area) ≡ drop (words_due v n) ws
    put-further = sym (drop-drop (n * words_for n) (slots_at v n) (area_put v n ws area))
        ∙ ap (drop (n * words_for n)) (drop_at (take (slots_at v n) ws) (area ++ drop (words_due v n) ws) (slots_at v n) front_long)
        ∙ drop_at area (drop (words_due v n) ws) (n * words_for n) e

    pub put-again : (other : List ℕ) → area_put v n (area_put v n ws area) other ≡ area_put v n ws other
    put-again other = ap₂ (λ front further. front ++ (other ++ further)) (take_at (take (slots_at v n) ws) _ (slots_at v n) front_long) put-further

    -- A part before the slots stays.
    pub put-part : (from k : ℕ) → from + k ≤ slots_at v n → take k (drop from (area_put v n ws area)) ≡ take k (drop from ws)
    put-part from k l = front-part (take (slots_at v n) ws) _ from k (omega (arith, front_long)) ∙ sym (front-part (take (slots_at v n) ws) (drop (slots_at v n) ws) from k (omega (arith, front_long)))
        ∙ ap (λ l. take k (drop from l)) (take-append-drop (slots_at v n) ws)

  pub area-slotted : (slots : Slots) → slots_part v n (slotted v n ws slots) ≡ slot_words n slots
  area-slotted slots = put-area (slot_words n slots) (length-slots n slots)

  pub held-slotted : (slots : Slots) → Reduced n slots → held_slots v n (slotted v n ws slots) ≡ slots
  held-slotted slots R = ap (slots_in n) (area-slotted slots) ∙ area-back R

  -- The words of its own slots leave a workspace as it is.
  pub own_put : area_put v n ws (slots_part v n ws) ≡ ws
  own_put = ap (λ l. take (slots_at v n) ws ++ l) (ap (λ l. slots_part v n ws ++ l) (sym (drop-drop (n * words_for n) (slots_at v n) ws)) ∙ take-append-drop (n * words_for n) (drop (slots_at v n) ws))
      ∙ take-append-drop (slots_at v n) ws

  -- So does an operator without rows, where the area holds the words of its slots.
  pub rows_none : (o : Operator) → slots_part v n ws ≡ slot_words n (held_slots v n ws) → rows_of (sizes_part v ws) (has (pairs_part v n ws)) o ≡ [] → ws ≡ with_rows v n ws o
  unfolding with_rows insert_all
  rows_none o e q = rw q (sym (ap (area_put v n ws) (sym e) ∙ own_put))

-- The workspace after a call that wrote to its area.
pub area-written : (v n : ℕ) (at : Places) → at ≡ places_of v n → (ws area : List ℕ) → take at.slots ws ++ (area ++ drop (at.end - at.slots) (drop at.slots ws)) ≡ area_put v n ws area
area-written v n at is ws area = let k : words_due v n - slots_at v n ≡ n * words_for n = omega arith in rw (is, k, drop-drop (n * words_for n) (slots_at v n) ws)

-- ---- rows inserted one after another

-- An area that came from slots, some of their rows inserted, with these rows left.
pub record Inserting (n : ℕ) (slots : Slots) (rows : List Set) (full pending area : List ℕ) (left : List Set) : Type 0 where
  pub waiting : Waiting n full pending area
  pub rest : insert_all n slots rows ≡ insert_all n (settled_in n pending area) left

module _ (n : ℕ) (slots : Slots) (rows : List Set) (full pending area : List ℕ) (left : List Set) (h : Inserting n slots rows full pending area left) where
  -- The first of the rows that are left is inserted.
  pub inserting-turn : (r : Set) (further : List Set) (full' pending' area' : List ℕ) → left ≡ r ∷ further → Waiting n full' pending' area'
      → settled_in n pending' area' ≡ insert n (settled_in n pending area) r → Inserting n slots rows full' pending' area' further
  unfolding insert_all
  inserting-turn r further full' pending' area' is waiting e = record { waiting = waiting; rest = h.rest ∙ rw (is, e) refl }

  pub inserting-done : left ≡ [] → settled_in n pending area ≡ insert_all n slots rows
  unfolding insert_all
  inserting-done is = sym (h.rest ∙ rw is refl)

-- A workspace that holds a proper content: its parts are the content's, it is ready for an operator's rows, and with these inserted it holds the content with other slots.
use Rattle.std.specs.Prelude.{ℕ, ◌≡◌, List, ◌++◌, length}
use Rattle.std.proofs.Common.{sym, ap, ◌∙◌, arith, length-append}
use Rattle.std.proofs.Math.Path.{fun_ext}
use Rattle.meaning.specs.Sets.{Slots}
use Rattle.meaning.specs.Task.{Operator}
use Rattle.meaning.specs.Feature.{features}
use Rattle.meaning.specs.Slot.{Reduced}
use Rattle.meaning.specs.Workspace.{has, packed, Content, words_of, Proper}
use Rattle.theory.specs.Words.{length-packed, packed-holds}
use Rattle.theory.specs.Contents.{slot_words, length-words, read-sizes, read_pairs, pairs-past, with_slots, slots-changed}
use Rattle.theory.specs.InsertAll.{insert_all, insert_all-reduced}
use Rattle.theory.specs.Rows.{rows_of}
use Rattle.layout.specs.Parts.{sizes_part, pairs_part, slots_part, Due}
use Rattle.pairs.specs.Ready.{Listed, Ready}
use Rattle.condition.specs.Slotted.{held_slots, slotted, area-slotted, held-slotted as slots-back, Opened, with_rows}

-- The words of a proper content for v variables and n features, with further words behind them.
pub record Holds (v n : ℕ) (c : Content) (further ws : List ℕ) : Type 0 where
  pub words : ws ≡ words_of c ++ further
  pub proper : Proper c
  pub variables : v ≡ length c.sizes
  pub total : n ≡ features c.sizes

module _ (v n : ℕ) (c : Content) (further ws : List ℕ) (h : Holds v n c further ws) where
  pub held-sizes : sizes_part v ws ≡ c.sizes
  held-sizes = rw (h.variables, h.words) (read-sizes c further)

  held-pairs : pairs_part v n ws ≡ packed (features c.sizes) c.pairs
  held-pairs = rw (h.variables, h.total, h.words) (read_pairs c further h.proper.start.full h.proper.goal.full)

  held-has : has (pairs_part v n ws) ≡ c.pairs
  held-has = ap has held-pairs ∙ fun_ext (λ f. packed-holds (features c.sizes) c.pairs f (pairs-past h.proper f))

  -- All words that are due are there.
  pub held-due : Due v n ws
  held-due = record {
    variables = omega (arith, h.variables, h.proper.limits.variables);
    features = omega (arith, h.total, h.proper.limits.total);
    words = rw (h.variables, h.total, h.words) (omega (arith, length-append (words_of c) further, length-words c h.proper.start.full h.proper.goal.full));
  }

  -- Other slots in their place are those of the content.
  held-slotted : (slots : Slots) → slotted v n ws slots ≡ words_of (with_slots c slots) ++ further
  held-slotted slots = rw (h.variables, h.total, h.words) (sym (slots-changed c further h.proper.start.full h.proper.goal.full slots))

  held-reduced : Reduced n c.slots
  held-reduced = rw h.total h.proper.slots

  own : slotted v n ws c.slots ≡ ws
  own = held-slotted c.slots ∙ sym h.words

  pub held-slots : held_slots v n ws ≡ c.slots
  held-slots = ap (held_slots v n) (sym own) ∙ slots-back v n ws held-due.words c.slots held-reduced

  pub held-shape : Reduced n (held_slots v n ws)
  held-shape = rw held-slots held-reduced

  pub held-filled : slots_part v n ws ≡ slot_words n (held_slots v n ws)
  held-filled = ap (slots_part v n) (sym own) ∙ area-slotted v n ws held-due.words c.slots ∙ ap (slot_words n) (sym held-slots)

  -- It is ready for the rows of an operator.
  pub held-opened : (o : Operator) → Ready (sizes_part v ws) (pairs_part v n ws) o → Opened v n ws o
  held-opened o r = record {
    counted = h.total ∙ ap features (sym held-sizes);
    due = held-due.words;
    ready = r;
    filled = held-filled;
    reduced = held-shape;
  }

  pub held-listed : Listed (sizes_part v ws) (pairs_part v n ws)
  held-listed = record {
    limits = rw held-sizes h.proper.limits;
    due = rw (held-pairs, held-sizes) (length-packed (features c.sizes) c.pairs);
  }

  -- With other slots of the reduced shape it holds those.
  held-again : (slots : Slots) → Reduced n slots → Holds v n (with_slots c slots) further (slotted v n ws slots)
  held-again slots R = record {
    words = held-slotted slots;
    proper = record {
      limits = h.proper.limits;
      taken = h.proper.taken;
      start = h.proper.start;
      goal = h.proper.goal;
      pairs = h.proper.pairs;
      free = h.proper.free;
      slots = rw (← h.total) R;
    };
    variables = h.variables;
    total = h.total;
  }

  -- The slots with the rows of an operator inserted, and the workspace with them.
  abbrev inserted : Operator → Slots
  inserted o = insert_all n c.slots (rows_of c.sizes c.pairs o)

  pub held_rows : (o : Operator) → Holds v n (with_slots c (inserted o)) further (with_rows v n ws o)
  unfolding with_rows
  held_rows o = rw (held-slots, held-sizes, held-has) (held-again (inserted o) (insert_all-reduced held-reduced _))

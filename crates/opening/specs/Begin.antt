-- A workspace whose slots are still empty, and what it becomes once all operators' rows are inserted.
use Rattle.std.specs.Prelude.{ℕ, zero, suc, ◌+◌, ◌-◌, ◌*◌, ◌≤◌, ◌≡◌, refl, false, ltb, length, take, drop, replicate}
use Rattle.std.proofs.Common.{sym, ap₂, ◌∙◌, arith, le-ltb}
use Rattle.std.proofs.Math.Path.{ap}
use Rattle.std.proofs.Math.Logic.Iff
use mathlib.Core.List.{List, ◌++◌, append_assoc, foldl}
use Rattle.std.proofs.lemmas.List.{length-replicate, replicate-append-replicate}
use Rattle.meaning.specs.Sets.{Slots, flat, listed}
use Rattle.meaning.specs.Task.{Operator, Task}
use Rattle.meaning.specs.Feature.{features}
use Rattle.meaning.specs.Number.{Read, got}
use Rattle.meaning.specs.File.{operators_of}
use Rattle.meaning.specs.Slot.{SlotsOf}
use Rattle.meaning.specs.Weight.{Meets}
use Rattle.meaning.specs.Workspace.{words_for, slots_at, words_due, packed, words_of, content_of}
use Rattle.meaning.specs.Answer.{done, OpensAs}
use Rattle.theory.specs.Search.{and-none-right}
use Rattle.theory.specs.Words.{packed-is}
use Rattle.theory.specs.Contents.{slot_words, length-words, opened-proper}
use Rattle.theory.specs.InsertAll.{bare, bare-reduced, insert_all, rows-slots}
use Rattle.theory.specs.Rows.{rows_all, meets-rows}
use Rattle.theory.specs.SlotsOf.{slots-along}
use Rattle.words.specs.Part.{has-none, words-none}
use Rattle.task.specs.Header.{header_words, header-content, header-length}
use Rattle.layout.specs.Parts.{sizes_part}
use Rattle.operator.specs.Fold.{walk-all}
use Rattle.task.specs.Answer.{KnownAs, known-headed, known-header}
use Rattle.condition.specs.Slotted.{held_slots, with_rows}
use Rattle.condition.specs.Holds.{Holds, held-sizes, held-slots}
use Rattle.opening.specs.Adding.{Sized, added_from, fold-rows}

-- ---- empty slots

zeros-slot : (n i : ℕ) → packed n (bare i) ≡ replicate (words_for n) 0
unfolding bare
zeros-slot n i = packed-is n (bare i) (replicate (words_for n) 0) (length-replicate (words_for n) 0) (words-none (words_for n)) (λ f. has-none (words_for n) f ∙ sym (and-none-right (ltb f n) false refl))

zeros-flat : (k w : ℕ) (g : ℕ → List ℕ) → ((i : ℕ) → g i ≡ replicate w 0) → flat k g ≡ replicate (k * w) 0
unfolding flat
zeros-flat zero w g h = let e : zero * w ≡ 0 = omega arith in rw e
zeros-flat (suc k) w g h = let e : suc k * w ≡ k * w + w = omega arith in
    ap₂ ◌++◌ (zeros-flat k w g h) (h k) ∙ replicate-append-replicate (k * w) w 0 ∙ ap (λ m. replicate m 0) (sym e)

-- Words that are all 0 are those of empty slots.
zeros-slots : (n : ℕ) → replicate (n * words_for n) 0 ≡ slot_words n bare
zeros-slots n = sym (zeros-flat n (words_for n) (λ i. packed n (bare i)) (zeros-slot n))

-- ---- a task that was accepted

module _ (judging : Read Task) (words left room : List ℕ) (v n : ℕ) (known : KnownAs judging words left v n) where
  abbrev task : Task
  task = known.task

  header-long : length (header_words task) ≡ slots_at v n
  header-long = header-length task (known-headed known) ∙ sym (ap₂ slots_at known.variables known.total)

  -- The slots of its operators.
  abbrev operator_slots : Slots
  operator_slots = insert_all (features task.sizes) bare (rows_all task.sizes (listed task.pairs) task.operators)

  -- A workspace that has the header in front, and empty slots behind it.
  module _ (due slots : ℕ) (ws : List ℕ) (due-is : due ≡ words_due v n) (slots-is : slots ≡ slots_at v n)
      (made : ws ≡ take slots left ++ (replicate (due - length (take slots left)) 0 ++ drop due room)) where
    zeros : replicate (words_due v n - slots_at v n) 0 ≡ slot_words (features task.sizes) bare
    zeros = let k : words_due v n - slots_at v n ≡ n * words_for n = omega arith in ap (λ m. replicate m 0) k ∙ zeros-slots n ∙ ap (λ m. slot_words m bare) known.total

    front : take slots left ≡ header_words task
    front = ap (λ k. take k left) slots-is ∙ known-header known

    behind : replicate (due - length (take slots left)) 0 ≡ slot_words (features task.sizes) bare
    behind = ap₂ (λ a b. replicate (a - b) 0) due-is (ap length front ∙ header-long) ∙ zeros

    held : ws ≡ words_of (content_of task bare) ++ drop due room
    held = made ∙ ap₂ (λ a b. a ++ (b ++ drop due room)) front behind ∙ sym (append_assoc (header_words task) (slot_words (features task.sizes) bare) (drop due room))
        ∙ ap (λ l. l ++ drop due room) (sym (header-content task bare))

    holds : Holds v n (content_of task bare) (drop due room) ws
    holds = record {
      words = held;
      proper = opened-proper task bare known.writable.acceptable (bare-reduced (features task.sizes));
      variables = known.variables;
      total = known.total;
    }

    pub begun_sized : Sized v n task.sizes ws
    begun_sized = record { workable = (content_of task bare, drop due room, holds); sizes-are = sym (held-sizes v n (content_of task bare) (drop due room) ws holds) }

    pub begun-blank : (i : ℕ) → held_slots v n ws i i ≡ false
    unfolding bare
    begun-blank i = ap (λ S. S i i) (held-slots v n (content_of task bare) (drop due room) ws holds)

    -- The rows of operators that are read by its sizes.
    pub begun-added : (bytes : List ℕ) (count at next : ℕ) (os : List Operator) → operators_of task.sizes count bytes at ≡ got os next
        → (exit : List ℕ) → exit ≡ added_from v n count bytes at ws → exit ≡ foldl (with_rows v n) ws os
    begun-added bytes count at next os e exit q = q ∙ walk-all (with_rows v n) (sizes_part v ws) bytes count at os next ws (rw (← begun_sized.sizes-are) e)

    -- With the rows of all its operators it is the task's workspace.
    pub begun-rows : (exit : List ℕ) → exit ≡ foldl (with_rows v n) ws task.operators → exit ≡ words_of (content_of task operator_slots) ++ drop due room
    begun-rows exit e = e ∙ fold-rows v n task.operators (content_of task bare) (drop due room) ws holds
        ∙ ap (λ m. words_of (content_of task (insert_all m bare (rows_all task.sizes (listed task.pairs) task.operators))) ++ drop due room) known.total

  are-slots : SlotsOf (features task.sizes) (Meets task.sizes (listed task.pairs) task.operators) operator_slots
  are-slots = slots-along _ _ _ _ (λ w. Iff.symm (meets-rows task.sizes (listed task.pairs) task.operators (λ o i. (known.writable.acceptable.operators o i).entries) w))
      (rows-slots (features task.sizes) (rows_all task.sizes (listed task.pairs) task.operators))

  long : length (words_of (content_of task operator_slots)) ≡ words_due v n
  long = length-words (content_of task operator_slots) known.writable.acceptable.start.full known.writable.acceptable.goal.full ∙ sym (ap₂ words_due known.variables known.total)

  due-for : words_due v n ≡ words_due (length task.sizes) (features task.sizes)
  due-for = ap₂ words_due known.variables known.total

  -- Enough of it.
  pub opens-done : (due : ℕ) (exit : List ℕ) → due ≡ words_due v n → due ≤ length room → exit ≡ words_of (content_of task operator_slots) ++ drop due room
      → OpensAs judging room (record { answer = done due; lent = exit })
  opens-done due exit e h x = rw (known.judged, le-ltb (length room) (words_due (length task.sizes) (features task.sizes)) (omega (arith, e, due-for)))
      (operator_slots, are-slots, ap₂ (λ d l. record { answer = done d; lent = l }) (e ∙ due-for) (x ∙ ap (λ k. words_of (content_of task operator_slots) ++ drop k room) (e ∙ sym long)))

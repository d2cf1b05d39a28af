-- Operators read one after another, and their rows inserted into the slots of a workspace.
use Rattle.std.specs.Prelude.{ℕ, ◌+◌, ◌-◌, ◌<◌, ◌≡◌, refl, Result, Ok}
use Rattle.std.proofs.Common.{sym, ap, ◌∙◌}
use mathlib.Core.List.{List, [], ◌∷◌, ◌++◌, flat_map, foldl}
use Rattle.meaning.specs.Task.{Operator}
use Rattle.meaning.specs.File.{operator_of}
use Rattle.meaning.specs.Workspace.{Content, words_of}
use Rattle.theory.specs.Contents.{with_slots}
use Rattle.theory.specs.InsertAll.{insert_all, insert_all-join}
use Rattle.theory.specs.Rows.{rows_of, rows_all}
use Rattle.number.specs.Answers.{place_of}
use Rattle.number.specs.declared.Fault.{Fault}
use Rattle.layout.specs.Parts.{sizes_part}
use Rattle.operator.specs.Fold.{walked, walk-keeps, turn_more}
use Rattle.condition.specs.Slotted.{with_rows}
use Rattle.condition.specs.Holds.{Holds, held-sizes, held_rows}

-- A workspace that holds some proper content.
abbrev pub Workable : ℕ → ℕ → List ℕ → Type 0
Workable v n ws = (c : Content) × (further : List ℕ) × Holds v n c further ws

-- One whose content has these sizes.
pub record Sized (v n : ℕ) (sizes ws : List ℕ) : Type 0 where
  pub workable : Workable v n ws
  pub sizes-are : sizes ≡ sizes_part v ws

-- Rows leave one of the same sizes.
pub sized_rows : {v n : ℕ} {sizes ws : List ℕ} → Sized v n sizes ws → (o : Operator) → Sized v n sizes (with_rows v n ws o)
sized_rows {v} {n} {ws = ws} sized o =
    let (c, further, held) = sized.workable in
    let more = held_rows v n c further ws held o in
    record { workable = (_, further, more); sizes-are = sized.sizes-are ∙ held-sizes v n c further ws held ∙ sym (held-sizes v n _ further (with_rows v n ws o) more) }

-- The rows of so many operators inserted, as far as they can be read.
abbrev pub added_from : ℕ → ℕ → ℕ → List ℕ → ℕ → List ℕ → List ℕ
added_from v n count bytes at ws = walked (with_rows v n) (sizes_part v ws) count bytes at ws

module _ (v n : ℕ) (bytes : List ℕ) where
  pub added-sized : (count at : ℕ) (sizes ws : List ℕ) → Sized v n sizes ws → Sized v n sizes (added_from v n count bytes at ws)
  added-sized count at sizes ws sized = walk-keeps (with_rows v n) (sizes_part v ws) bytes (Sized v n sizes) (λ l o h. sized_rows h o) count at ws sized

  -- A turn that inserts the rows of one operator.
  module _ (count k at : ℕ) (ws : List ℕ) (workable : Workable v n ws) (answer : Result ℕ Fault) (left : List ℕ) (more : k < count)
      (place : answer ≡ place_of (operator_of (sizes_part v ws) bytes at)) (rows : left ≡ added_from v n 1 bytes at ws) where
    same : Sized v n (sizes_part v ws) left
    same = rw rows (added-sized 1 at (sizes_part v ws) ws (record { workable = workable; sizes-are = refl }))

    pub added-workable : Workable v n left
    added-workable = same.workable

    pub added_more : (next : ℕ) → answer ≡ Ok next → added_from v n (count - k) bytes at ws ≡ added_from v n (count - (k + 1)) bytes next left
    added_more next e = turn_more (with_rows v n) (sizes_part v ws) bytes count k at ws answer left more place rows next e
        ∙ ap (λ sizes. walked (with_rows v n) sizes (count - (k + 1)) bytes next left) same.sizes-are

-- Where a content is held, the rows of operators one after another are inserted into its slots.
pub fold-rows : (v n : ℕ) (os : List Operator) (c : Content) (further ws : List ℕ) → Holds v n c further ws
    → foldl (with_rows v n) ws os ≡ words_of (with_slots c (insert_all n c.slots (rows_all c.sizes c.pairs os))) ++ further
unfolding rows_all flat_map insert_all
fold-rows v n [] c further ws h = h.words
fold-rows v n (o ∷ os) c further ws h = fold-rows v n os _ further (with_rows v n ws o) (held_rows v n c further ws h o)
    ∙ ap (λ slots. words_of (with_slots c slots) ++ further) (sym (insert_all-join n c.slots (rows_of c.sizes c.pairs o) (rows_all c.sizes c.pairs os)))

-- An operator whose conditions already follow from the stored slots changes no word.
use Rattle.std.specs.Prelude.{ℕ, ◌≡◌, List, ◌++◌, length, drop}
use Rattle.std.proofs.Common.{ap, ◌∙◌, inl, inr}
use Rattle.std.proofs.Math.Logic.Iff
use Rattle.std.proofs.Math.Seq.{drop-append_seam}
use Rattle.meaning.specs.Sets.{Set, Slots}
use Rattle.meaning.specs.Feature.{features}
use Rattle.meaning.specs.Slot.{SlotsOf, Stored}
use Rattle.meaning.specs.Weight.{Allows}
use Rattle.meaning.specs.Workspace.{Content, words_of, WellFormed}
use Rattle.meaning.specs.Answer.{Outcome, OperatorRecord, operator_in, add_operator, Judged, fine, faulty, edit_judged, EditsIn, Edits}
use Rattle.theory.specs.SlotsOf.{slots-of-stored, slots-only}
use Rattle.theory.specs.Contents.{with_slots}

-- The new operator's conditions follow: weights that meet the stored slots evenly are allowed by it.
abbrev pub Follows : Content → OperatorRecord → Type 0
Follows c r = (w : Set) → Stored (features c.sizes) c.slots w → Allows c.sizes c.pairs w (operator_in r)

-- The words of a content in front of a workspace that begins with them.
rewritten : (c : Content) (further workspace : List ℕ) → workspace ≡ words_of c ++ further → words_of c ++ drop (length (words_of c)) workspace ≡ workspace
rewritten c further workspace e = rw e (ap (λ l. words_of c ++ l) (drop-append_seam (words_of c) further))

module _ (workspace : List ℕ) (r : OperatorRecord) (outcome : Outcome (Unit {0})) (formed : WellFormed workspace) (follows : Follows formed.content r) where
  -- The slots that the conditions have are those that are stored.
  same-slots : (slots : Slots)
      → SlotsOf (features formed.content.sizes)
      (λ w. Stored (features formed.content.sizes) formed.content.slots w × Allows formed.content.sizes formed.content.pairs w (operator_in r))
      slots
      → slots ≡ formed.content.slots
  same-slots slots D =
      slots-only _ _ (Stored (features formed.content.sizes) formed.content.slots) slots formed.content.slots
      (λ w. (λ h. h.0, λ h. (h, follows w h))) D
      (slots-of-stored (Stored (features formed.content.sizes) formed.content.slots) formed.proper.slots (λ w. Iff.rfl))

  by-judgement : (judged : Judged) → EditsIn judged workspace formed.content (add_operator r) outcome → outcome.lent ≡ workspace
  by-judgement (faulty reason) q = ap (λ o. o.lent) q
  by-judgement fine (c', (slots, D, q'), q) =
      let same : c' ≡ formed.content = q' ∙ ap (with_slots formed.content) (same-slots slots D) in
      ap (λ o. o.lent) q ∙ ap (λ c. words_of c ++ drop (length (words_of c)) workspace) same ∙ rewritten formed.content formed.further workspace formed.words

-- Whatever add_operator answers, the words stay as they were.
pub follows-unchanged : (workspace : List ℕ) (r : OperatorRecord) (outcome : Outcome (Unit {0})) → ((formed : WellFormed workspace) → Follows formed.content r)
    → Edits workspace (add_operator r) outcome → outcome.lent ≡ workspace
follows-unchanged workspace r outcome follows (inl (not-formed, q)) = ap (λ o. o.lent) q
follows-unchanged workspace r outcome follows (inr (formed, h)) =
    by-judgement workspace r outcome formed (follows formed) (edit_judged formed.content (add_operator r)) h

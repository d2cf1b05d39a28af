-- An operator on three slices: places from the most variables on never count, because a count that reaches them is refused.
use Rattle.std.specs.Prelude.{ℕ, suc, ◌+◌, ◌<◌, ◌≤◌, ◌≡◌, refl, false, List, leb, length, get_or, set}
use Rattle.std.proofs.Common.{ap, ◌∙◌, subst, inl, inr, arith, get_or-set_same, get_or-set_other, leb-true, leb-false, ltb-true, le-ltb}
use Rattle.meaning.specs.Limits.{most_variables}
use Rattle.meaning.specs.Sets.{Slots}
use Rattle.meaning.specs.Task.{Operator}
use Rattle.meaning.specs.Feature.{features}
use Rattle.meaning.specs.Slot.{SlotsOf, Stored}
use Rattle.meaning.specs.Weight.{Allows}
use Rattle.meaning.specs.Pair.{closed}
use Rattle.meaning.specs.Number.{Range, Unclosed}
use Rattle.meaning.specs.File.{inside, InLimits}
use Rattle.meaning.specs.Workspace.{Content}
use Rattle.meaning.specs.Answer.{Outcome, OperatorRecord, operator_in, add_operator, Judged, fine, faulty, need, entries_judged, edit_judged, Changes, EditsIn, Edits}
use Rattle.theory.specs.Truth.{on, off, test, less, same, more, order}
use Rattle.theory.specs.Search.{and_right, and-none-right}
use Rattle.theory.specs.Flat.{table-cong}
use Rattle.theory.specs.Operands.{add-fine}
use Rattle.theory.specs.Contents.{with_slots}

-- An operator as it is handed over: "places past a slice's end count as 0".
abbrev pub handed : ℕ → List ℕ → List ℕ → List ℕ → OperatorRecord
handed count variables befores afters = record { count = count; variables = variables; befores = befores; afters = afters }

-- Two lists have the same first n places.
abbrev pub SamePlaces : ℕ → List ℕ → List ℕ → Type 0
SamePlaces n l m = (i : ℕ) → i < n → get_or l i 0 ≡ get_or m i 0

-- One more place is copied.
pub place-copied : (copied words : List ℕ) (n x : ℕ) → n < length copied → SamePlaces n copied words → x ≡ get_or words n 0 → SamePlaces (n + 1) (set copied n x) words
place-copied copied words n x h before e i l = elim (order i n) [
  | less k ↦ get_or-set_other copied n i x 0 (λ q. omega arith) ∙ before i k
  | same q ↦ rw q (get_or-set_same copied n x 0 h ∙ e)
  | more k ↦ absurd (omega arith)
]

module _ (count : ℕ) (vs xs ys vs' xs' ys' : List ℕ) (v : SamePlaces most_variables vs vs') (x : SamePlaces most_variables xs xs') (y : SamePlaces most_variables ys ys') where
  abbrev one : OperatorRecord
  one = handed count vs xs ys

  abbrev other : OperatorRecord
  other = handed count vs' xs' ys'

  held_same : count ≤ most_variables → operator_in one ≡ operator_in other
  unfolding operator_in
  held_same h = table-cong count _ _ (λ i l. rw (v i (omega arith), x i (omega arith), y i (omega arith)) refl)

  module _ (c : Content) (limits : InLimits c.sizes) where
    -- What is judged depends on the count and on the operator that is held.
    abbrev judged_by : Operator → Judged
    judged_by o = need (inside 1 (suc (length c.sizes)) count) Range (entries_judged c.sizes 0 o (need (closed c.sizes c.pairs o) Unclosed fine))

    count-refused : most_variables < count → inside 1 (suc (length c.sizes)) count ≡ false
    count-refused h = and-none-right (leb 1 count) _ (le-ltb count (suc (length c.sizes)) (omega (arith, limits.variables.1)))

    judged-same : edit_judged c (add_operator one) ≡ edit_judged c (add_operator other)
    judged-same = elim (test (leb count most_variables)) [
      | on h ↦ ap judged_by (held_same (leb-true count most_variables h))
      | off h ↦ rw (count-refused (leb-false count most_variables h)) refl
    ]

    changes-same : (c' : Content) → edit_judged c (add_operator one) ≡ fine → Changes c (add_operator one) c' → Changes c (add_operator other) c'
    changes-same c' e =
        let small = ltb-true count (suc (length c.sizes)) (and_right (leb 1 count) _ (add-fine c one e).0) in
        subst
        (λ o. (slots : Slots)
        × SlotsOf (features c.sizes) (λ weights. Stored (features c.sizes) c.slots weights × Allows c.sizes c.pairs weights o) slots
        × (c' ≡ with_slots c slots))
        (held_same (omega (arith, small, limits.variables.1)))

    edits-in-same : (workspace : List ℕ) (outcome : Outcome (Unit {0})) (judged : Judged) → edit_judged c (add_operator one) ≡ judged
        → EditsIn judged workspace c (add_operator one) outcome → EditsIn judged workspace c (add_operator other) outcome
    edits-in-same workspace outcome (faulty reason) e h = h
    edits-in-same workspace outcome fine e (c', changes, q) = (c', changes-same c' e changes, q)

  -- An edit by the one is an edit by the other.
  pub edits-same : (workspace : List ℕ) (outcome : Outcome (Unit {0})) → Edits workspace (add_operator one) outcome → Edits workspace (add_operator other) outcome
  edits-same workspace outcome (inl h) = inl h
  edits-same workspace outcome (inr (formed, h)) =
      let c = formed.content in
      let limits = formed.proper.limits in
      inr (
        formed,
        subst (λ j. EditsIn j workspace c (add_operator other) outcome) (judged-same c limits)
            (edits-in-same c limits workspace outcome (edit_judged c (add_operator one)) refl h),
      )

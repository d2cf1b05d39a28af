-- The conditions of a list of operators: what their rows force, and the slots that stand for them.
use Rattle.std.specs.Prelude.{ℕ, ◌↔◌, refl}
use Rattle.std.proofs.Common.{inl, inr}
use mathlib.Core.List.Memᴰ.{append_cases}
use mathlib.Core.List.Memᴰ.{append_left}
use mathlib.Core.List.{List, [], ◌∷◌, ◌++◌, Memᴰ as In}
use mathlib.Core.List.Memᴰ.{append_right}
use mathlib.Core.List.Memᴰ.{eq_of_singleton}
use mathlib.Core.List.Memᴰ.{head as here}
use Rattle.meaning.specs.Sets.{Set, Slots}
use Rattle.meaning.specs.Task.{Operator, Entries}
use Rattle.meaning.specs.Feature.{features}
use Rattle.meaning.specs.Slot.{SlotsOf, Stored}
use Rattle.meaning.specs.Weight.{Allows, Meets}
use Rattle.theory.specs.Parity.{dot-even}
use Rattle.theory.specs.SlotsOf.{Closed, slots-along, stored-of-slots}
use Rattle.theory.specs.Rows.{allows-rows}

module _ (sizes : List ℕ) (pairs : Set) where
  -- Every entry of every operator is in its range.
  abbrev pub Ranged : List Operator → Type 0
  Ranged operators = (o : Operator) → In o operators → Entries sizes 0 o

  -- What the conditions force, they follow from: each row of an operator is forced.
  pub meets-closed : (operators : List Operator) → Ranged operators → Closed (features sizes) (Meets sizes pairs operators)
  meets-closed operators ranged w even o m =
      (allows-rows sizes pairs o (ranged o m) w).1
      (λ r row. even r (λ u meets. dot-even (features sizes) u r ((allows-rows sizes pairs o (ranged o m) u).0 (meets o m) r row)))

  -- The slots of the conditions are met evenly by the weights that meet the conditions, and by no others.
  pub stored-meets : (operators : List Operator) (slots : Slots) → Ranged operators → SlotsOf (features sizes) (Meets sizes pairs operators) slots
      → (w : Set) → Stored (features sizes) slots w ↔ Meets sizes pairs operators w
  stored-meets operators slots ranged D = stored-of-slots D (meets-closed operators ranged)

  -- Conditions do not depend on the order of the operators, nor on repeats.
  pub meets-same : (operators operators' : List Operator) → ((o : Operator) → In o operators ↔ In o operators')
      → (w : Set) → Meets sizes pairs operators w ↔ Meets sizes pairs operators' w
  meets-same operators operators' same w = (λ h o m. h o ((same o).1 m), λ h o m. h o ((same o).0 m))

  -- One operator more is one condition more.
  pub meets-more : (operators : List Operator) (o : Operator) (w : Set)
      → (Meets sizes pairs operators w × Allows sizes pairs w o) ↔ Meets sizes pairs (operators ++ (o ∷ [])) w
  meets-more operators o w =
      (λ h p m. elim (append_cases operators m) [ inl k ↦ h.0 p k | inr k ↦ rw (eq_of_singleton k) h.1 ], λ h. (λ p m. h p (append_left (o ∷ []) m), h o (append_right operators (here refl))))

  -- An operator added to slots that stand for the earlier ones.
  pub slots-more : (operators : List Operator) (o : Operator) (slots slots' : Slots) → Ranged operators
      → SlotsOf (features sizes) (Meets sizes pairs operators) slots
      → SlotsOf (features sizes) (λ w. Stored (features sizes) slots w × Allows sizes pairs w o) slots'
      → SlotsOf (features sizes) (Meets sizes pairs (operators ++ (o ∷ []))) slots'
  slots-more operators o slots slots' ranged D D' =
      slots-along (features sizes) _ (Meets sizes pairs (operators ++ (o ∷ []))) slots'
      (λ w. (
        λ h. (meets-more operators o w).0 ((stored-meets operators slots ranged D w).0 h.0, h.1),
        λ h. let k = (meets-more operators o w).1 h in ((stored-meets operators slots ranged D w).1 k.0, k.1),
      ))
      D'

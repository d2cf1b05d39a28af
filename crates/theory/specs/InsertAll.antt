-- A list of rows inserted one after another: the slots of the condition that every row is met evenly, in whatever order the rows come.
use Rattle.std.specs.Prelude.{ℕ, ◌≡◌, refl, ◌↔◌, false}
use Rattle.std.proofs.Math.Logic.Iff
use Rattle.std.proofs.Common.{inl, inr}
use mathlib.Core.List.Memᴰ
use mathlib.Core.List.Memᴰ.{head as here}
use mathlib.Core.List.Memᴰ.{tail as there}
use mathlib.Core.List.{List, [], ◌∷◌, ◌++◌, Memᴰ as In}
use Rattle.meaning.specs.Sets.{Set, Slots}
use Rattle.theory.specs.Truth.{clash}
use Rattle.theory.specs.Parity.{dot, dot-none}
use Rattle.meaning.specs.Slot.{Reduced, SlotsOf, Stored}
use Rattle.theory.specs.Slots.{dot-stored}
use Rattle.theory.specs.SlotsOf.{slots-of-stored}
use Rattle.theory.specs.Insert.{insert, insert-reduced, insert-stored}

-- Every slot empty.
unfoldable pub bare : Slots
bare i f = false

pub bare-reduced : (n : ℕ) → Reduced n bare
unfolding bare
bare-reduced n = record { within = λ i f e. absurd (clash e refl); low = λ i f l. refl; full = λ i f e. e; clear = λ i j e d. refl }

pub bare-stored : (n : ℕ) (w : Set) → Stored n bare w
unfolding bare
bare-stored n w = dot-stored n bare w (λ i l. dot-none n w _ (λ f j. refl))

-- Weights that meet every row of a list evenly.
abbrev pub MeetsRows : ℕ → List Set → Set → Type 0
MeetsRows n rows w = (r : Set) → In r rows → dot n w r ≡ false

-- The rows are inserted from the first to the last.
unfoldable pub insert_all : ℕ → Slots → List Set → Slots
insert_all n S [] = S
insert_all n S (r ∷ rows) = insert_all n (insert n S r) rows

pub insert_all-join : (n : ℕ) (S : Slots) (rows more_rows : List Set) → insert_all n S (rows ++ more_rows) ≡ insert_all n (insert_all n S rows) more_rows
unfolding insert_all
insert_all-join n S [] more_rows = refl
insert_all-join n S (r ∷ rows) more_rows = insert_all-join n (insert n S r) rows more_rows

pub insert_all-reduced : {n : ℕ} {S : Slots} → Reduced n S → (rows : List Set) → Reduced n (insert_all n S rows)
unfolding insert_all
insert_all-reduced R [] = R
insert_all-reduced {n = n} {S = S} R (r ∷ rows) = insert_all-reduced {S = insert n S r} (insert-reduced R r) rows

rows-cons : (n : ℕ) (r : Set) (rows : List Set) (w : Set) → ((dot n w r ≡ false) × MeetsRows n rows w) → MeetsRows n (r ∷ rows) w
rows-cons n r rows w h g i = elim (Memᴰ.cases_cons i) [ inl q ↦ rw q h.0 | inr j ↦ h.1 g j ]

pub insert_all-stored : {n : ℕ} {S : Slots} → Reduced n S → (rows : List Set) (w : Set) → Stored n (insert_all n S rows) w ↔ (Stored n S w × MeetsRows n rows w)
unfolding insert_all
insert_all-stored R [] w = (λ k. (k, λ r i. absurd (Memᴰ.not-nil i)), λ k. k.0)
insert_all-stored {n = n} {S = S} R (r ∷ rows) w = Iff.trans (insert_all-stored {S = insert n S r} (insert-reduced R r) rows w) (
  λ k. let h = (insert-stored R r w).0 k.0 in (h.0, rows-cons n r rows w (h.1, k.1)),
  λ k. ((insert-stored R r w).1 (k.0, k.1 r (here refl)), λ g i. k.1 g (there i)),
)

pub rows-stored : (n : ℕ) (rows : List Set) (w : Set) → Stored n (insert_all n bare rows) w ↔ MeetsRows n rows w
rows-stored n rows w = Iff.trans (insert_all-stored (bare-reduced n) rows w) (λ h. h.1, λ h. (bare-stored n w, h))

-- The rows inserted one after another give the slots of the condition that all are met evenly.
pub rows-slots : (n : ℕ) (rows : List Set) → SlotsOf n (MeetsRows n rows) (insert_all n bare rows)
rows-slots n rows = slots-of-stored (MeetsRows n rows) (insert_all-reduced (bare-reduced n) rows) (rows-stored n rows)

-- The rows of an operator that is not idle, one after another: what the walk over them asks, and what is still to come after each.
use Rattle.std.specs.Prelude.{ℕ, ◌+◌, ◌*◌, ◌<◌, ◌≤◌, ◌≡◌, Bool, true, false, not, List, [], ◌∷◌, eqb, length, set, Option, Some, None}
use Rattle.std.proofs.Math.Path.{refl, ap₂, sym, fun_ext}
use Rattle.std.proofs.Common.{ap, ◌∙◌, arith, length-set, get_or-set_same, get_or-set_other, eqb-true}
use Rattle.std.proofs.lemmas.Bool.{eqb-false}
use Rattle.meaning.specs.Sets.{◌⊕◌, Set, odd, shared, all_of}
use Rattle.meaning.specs.Limits.{word_bits}
use Rattle.meaning.specs.Task.{Operator, State, names, applies, value, size}
use Rattle.meaning.specs.Feature.{features}
use Rattle.meaning.specs.Pair.{idle}
use Rattle.meaning.specs.Workspace.{words_for, has, packed}
use Rattle.theory.specs.Truth.{on, off, test}
use Rattle.theory.specs.Given.{Given}
use Rattle.theory.specs.Parity.{dot, odd-shared}
use Rattle.theory.specs.Words.{length-packed, packed-holds}
use Rattle.theory.specs.Rows.{change, base, base-considered, rows_of, allowed}
use Rattle.theory.specs.Walk.{change-past}
use Rattle.words.specs.Parity.{shared-words}
use Rattle.pairs.specs.Ready.{Ready, HoldsPossible, ready-given}
use Rattle.rows.specs.declared.Value.{Value}
use Rattle.rows.specs.Change.{difference}
use Rattle.rows.specs.Apart.{wanted_by, wanted_from, values_on}
use Rattle.rows.specs.Rows.{aparts_from, aparts-next, apart_ready, rows_made}

-- An operator that is not idle, with the table of its possible atoms and its base state.
pub record Prepared (sizes : List ℕ) (pairs : Set) (o : Operator) (possible state : List ℕ) : Type 0 where
  pub given : Given sizes o
  pub busy : idle sizes pairs o ≡ false
  pub table : HoldsPossible sizes pairs o possible
  pub at_base : state ≡ base sizes pairs o

pub prepared : {sizes pairs : List ℕ} {o : Operator} {possible state : List ℕ} {busy : Bool} → Ready sizes pairs o
    → (busy ≡ idle sizes (has pairs) o) × HoldsPossible sizes (has pairs) o possible
    × (state ≡ base sizes (has pairs) o)
    → busy ≡ false → Prepared sizes (has pairs) o possible state
prepared r (e, t, s) q = record {
  given = ready-given r;
  busy = sym e ∙ q;
  table = t;
  at_base = s;
}

-- A row of as many words as are due for n features, with no member at n or beyond.
pub record RowFor (n : ℕ) (row : List ℕ) : Type 0 where
  pub long : length row ≡ words_for n
  pub past : (f : ℕ) → n ≤ f → has row f ≡ false

-- All rows, by the table and the base state.
unfoldable pub rows_by : List ℕ → Operator → List ℕ → List ℕ → List Set
rows_by sizes o possible state = change sizes o state ∷ aparts_from sizes o (has possible) state 0 0

-- The rows that come after the one at hand, which are looked for from a value on.
abbrev pub rows_after : List ℕ → Operator → List ℕ → List ℕ → Value → List Set
rows_after sizes o possible state from = aparts_from sizes o (has possible) state from.variable from.value

-- The row at hand and those that come after it; none where no row is at hand.
abbrev pub rows_left : List ℕ → Operator → List ℕ → List ℕ → List ℕ → Option Value → List Set
rows_left sizes o possible state row (Some from) = has row ∷ rows_after sizes o possible state from
rows_left sizes o possible state row None = []

-- A row at hand: it has no member past the features, and the next one is looked for from a value in range.
abbrev pub AtHand : List ℕ → List ℕ → Option Value → Type 0
AtHand sizes row (Some from) = ((f : ℕ) → features sizes ≤ f → has row f ≡ false) × (from.value ≤ size sizes from.variable)
AtHand sizes row None = Unit {0}

-- A walk with its row, and these rows left.
pub record Walked (sizes : List ℕ) (o : Operator) (possible state row : List ℕ) (walk : Option Value) (left : List Set) : Type 0 where
  pub long : length row ≡ words_for (features sizes)
  pub at_hand : AtHand sizes row walk
  pub rest : left ≡ rows_left sizes o possible state row walk

-- A row that was made is at hand, and the next one is looked for from its place on.
walked-made : (sizes : List ℕ) (o : Operator) (possible state row : List ℕ) (u y : ℕ) (r : Set) → ((f : ℕ) → features sizes ≤ f → r f ≡ false) → row ≡ packed (features sizes) r
    → y ≤ size sizes u → Walked sizes o possible state row (Some (record { variable = u; value = y })) (r ∷ aparts_from sizes o (has possible) state u y)
walked-made sizes o possible state row u y r over e l = record {
  long = ap length e ∙ length-packed (features sizes) r;
  at_hand = (λ f k. ap (λ a. a f) held ∙ over f k, l);
  rest = ap (λ a. a ∷ aparts_from sizes o (has possible) state u y) (sym held);
}
  where
    held : has row ≡ r
    held = rw e (fun_ext (λ f. packed-holds (features sizes) r f (over f)))

state-set : (sizes s : List ℕ) (u y : ℕ) → State sizes s → y < size sizes u → State sizes (set s u y)
state-set sizes s u y t k = record {
  full = length-set s u y ∙ t.full;
  values = λ i l. elim (test (eqb i u)) [
    | on z ↦ own i l (eqb-true i u z)
    | off z ↦ rw (get_or-set_other s u i y 0 (eqb-false i u z)) (t.values i l)
  ];
}
  where
    own : (i : ℕ) → i < length sizes → i ≡ u → value (set s u y) i < size sizes i
    own i l z = rw (z, get_or-set_same s u y 0 (omega (arith, t.full))) k

-- ---- the walk

-- It begins with the change at the base state.
pub walk_first : {sizes state : List ℕ} {o : Operator} → Given sizes o → State sizes state → (possible row : List ℕ) → row ≡ packed (features sizes) (change sizes o state)
    → Walked sizes o possible state row (Some (record { variable = 0; value = 0 })) (rows_by sizes o possible state)
unfolding rows_by
walk_first {sizes} {state} {o} given t possible row e =
    walked-made sizes o possible state row 0 0 (change sizes o state) (λ f l. change-past sizes o state f given.entries t l) e (omega arith)

module _ {sizes : List ℕ} {pairs : Set} {o : Operator} {possible state : List ℕ} (h : Prepared sizes pairs o possible state) where
  pub base-state : State sizes state
  base-state = rw h.at_base (base-considered sizes pairs o h.given.entries h.busy).is_state

  pub base-applies : applies o state ≡ true
  base-applies = rw h.at_base (base-considered sizes pairs o h.given.entries h.busy).has-before

  pub rows-by : rows_of sizes pairs o ≡ rows_by sizes o possible state
  unfolding rows_by
  rows-by = rows_made sizes pairs o (has possible) (λ f l. h.table.each f)
      ∙ rw h.busy (ap (λ s. change sizes o s ∷ aparts_from sizes o (has possible) s 0 0) (sym h.at_base))

  module _ (from : Value) where
    -- It goes on with the difference of the value that was found.
    module _ (found : Value) (is : wanted_from sizes (wanted_by sizes (has possible) state) from.variable from.value ≡ values_on sizes (wanted_by sizes (has possible) state) (Some found)) where
      pub found-ready : (found.variable < length sizes) × (found.value < size sizes found.variable) × (names o found.variable ≡ false)
      found-ready = apart_ready sizes pairs o (has possible) (λ f l. h.table.each f) state from.variable from.value found is

      difference-over : (f : ℕ) → features sizes ≤ f → difference sizes o state found.variable found.value f ≡ false
      unfolding difference
      difference-over f l = ap₂ ◌⊕◌ (change-past sizes _ _ f h.given.entries (state-set sizes state found.variable found.value base-state found-ready.1) l)
          (change-past sizes _ _ f h.given.entries base-state l)

      pub walk-next : (row : List ℕ) → row ≡ packed (features sizes) (difference sizes o state found.variable found.value)
          → Walked sizes o possible state row (Some (record { variable = found.variable; value = found.value + 1 })) (rows_after sizes o possible state from)
      walk-next row e =
          rw (aparts-next sizes o (has possible) state from.variable from.value (Some found) is)
          (walked-made sizes o possible state row found.variable (found.value + 1) (difference sizes o state found.variable found.value) difference-over e (omega (arith, found-ready.1)))

    -- It ends where there is none.
    pub walk-done : (row : List ℕ) → length row ≡ words_for (features sizes) → wanted_from sizes (wanted_by sizes (has possible) state) from.variable from.value ≡ []
        → Walked sizes o possible state row None (rows_after sizes o possible state from)
    walk-done row l e = record { long = l; at_hand = tt; rest = aparts-next sizes o (has possible) state from.variable from.value None e }

-- ---- whether weights meet all rows evenly

unfoldable pub all_even : ℕ → Set → List Set → Bool
all_even n w rows = all_of (λ r. not (dot n w r)) rows

pub allowed-even : (sizes : List ℕ) (pairs w : Set) (o : Operator) → allowed sizes pairs w o ≡ all_even (features sizes) w (rows_of sizes pairs o)
unfolding allowed all_even
allowed-even sizes pairs w o = refl

-- An idle operator has no rows.
pub idle-rows : (sizes : List ℕ) (pairs : Set) (o : Operator) → idle sizes pairs o ≡ true → rows_of sizes pairs o ≡ []
unfolding rows_of
idle-rows sizes pairs o q = rw q refl

pub even-none : (n : ℕ) (w : Set) → all_even n w [] ≡ true
unfolding all_even all_of
even-none n w = refl

-- The row at hand decides, or those after it do.
module _ (n : ℕ) (weights row : List ℕ) (left rows : List Set) (e : length weights ≡ words_for n) (past : (f : ℕ) → n ≤ f → has weights f ≡ false) (is : left ≡ has row ∷ rows) where
  row-dot : odd (shared (word_bits * length weights) (has weights) (has row)) ≡ dot n (has weights) (has row)
  row-dot = ap odd (shared-words n weights (has row) e past) ∙ odd-shared n (has weights) (has row)

  pub even-stop : odd (shared (word_bits * length weights) (has weights) (has row)) ≡ true → all_even n (has weights) left ≡ false
  unfolding all_even all_of
  even-stop q = rw (is, sym row-dot ∙ q) refl

  pub even-next : odd (shared (word_bits * length weights) (has weights) (has row)) ≡ false → all_even n (has weights) left ≡ all_even n (has weights) rows
  unfolding all_even all_of
  even-next q = rw (is, sym row-dot ∙ q) refl

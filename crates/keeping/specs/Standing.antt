-- A state as an operator that names every variable and leaves it as it is.
use Prim.Native.Nat.{ℕ, zero, suc, ◌+◌, ◌*◌, ◌<◌, ◌≤◌}
use Rattle.std.specs.Prelude.{◌≡◌, refl, Bool, true, ◌||◌, List, get_or, replicate}
use Rattle.std.proofs.Math.Path.{sym, ap}
use Rattle.std.proofs.Common.{◌∙◌, eq-eqb}
use Rattle.std.proofs.Math.Bool.{false, not, or-false}
use native.Mathlib.Omega.{arith}
use Rattle.std.proofs.Math.Dec.{eqb}
use Rattle.std.proofs.Math.ListN.{length}
use Rattle.std.proofs.lemmas.List.{length-replicate}
use Rattle.meaning.specs.Sets.{Set, some, table}
use Rattle.meaning.specs.Limits.{word_bits}
use Rattle.meaning.specs.Task.{Entry, Operator, State, Entries, IsOperator, names, value, size}
use Rattle.meaning.specs.Feature.{atoms, both}
use Rattle.meaning.specs.Pair.{joins_afters, joins_possible, unclosed_pair, held_pair}
use Rattle.meaning.specs.Workspace.{has}
use Rattle.meaning.specs.Answer.{operator_in}
use Rattle.theory.specs.Search.{and-none-left, any-not, some_at, some-not}
use Rattle.theory.specs.Flat.{length-table, table-cong}
use Rattle.theory.specs.Possible.{possible_atoms}
use Rattle.theory.specs.Given.{entry_of}
use Rattle.words.specs.Part.{has-none}
use Rattle.pairs.specs.Places.{any-table, two-table}
use Rattle.pairs.specs.Ready.{Listed, Ready, ready-is, HoldsPossible}

unfoldable pub standing : List ℕ → Operator
standing state = table (length state) (λ i. entry_of i (value state i) (value state i))

-- Entries for one variable after another.
entries-table : (sizes : List ℕ) (n low : ℕ) (entry : ℕ → Entry)
    → ((i : ℕ) → i < n → ((entry i).variable ≡ low + i) × ((entry i).before < size sizes (entry i).variable) × ((entry i).after < size sizes (entry i).variable))
    → low + n ≤ length sizes → Entries sizes low (table n entry)
unfolding table
entries-table sizes zero low entry each h = tt
entries-table sizes (suc n) low entry each h = let (here, before, after) = each 0 (omega arith) in (
  omega (arith, here),
  omega (arith, here),
  before,
  after,
  entries-table sizes n (suc (entry 0).variable) (λ i. entry (suc i)) (λ i l. let (e, b, a) = each (suc i) (omega arith) in (omega (arith, here, e), b, a)) (omega (arith, here)),
)

module _ (sizes state : List ℕ) (full : State sizes state) where
  -- Each variable is named.
  named : (u : ℕ) → u < length sizes → names (standing state) u ≡ true
  unfolding names standing
  named u l = any-table _ (length state) _ ∙ some_at (length state) _ u (omega (arith, full.full)) (eq-eqb u u refl)

  pub standing-is : 1 ≤ length sizes → IsOperator sizes (standing state)
  unfolding standing
  standing-is l = let entry : ℕ → Entry = λ i. entry_of i (value state i) (value state i) in record {
    filled = omega (arith, length-table (length state) entry, full.full);
    entries = entries-table sizes (length state) 0 entry
        (λ i h. let k : i < length sizes = omega (arith, full.full) in (omega arith, full.values i k, full.values i k)) (omega (arith, full.full));
  }

  -- What is unclosed under it is what the state holds.
  pub standing-unclosed : (pairs : Set) (f : ℕ) → unclosed_pair sizes pairs (standing state) f ≡ held_pair sizes state f
  unfolding unclosed_pair joins_afters joins_possible held_pair standing
  standing-unclosed pairs f = or-none (any-not _ (standing state) (λ e m. some-not (length sizes) _ (λ u l. and-none-left (not (names (standing state) u)) _ (ap not (named u l)))))
      (two-table _ (length state) _ ∙ ap (λ v. some v (λ j. some j (λ i. eqb f (both sizes i (value state i) j (value state j))))) full.full)
    where
      or-none : {a b c : Bool} → b ≡ false → a ≡ c → (a || b) ≡ c
      or-none {a} p q = rw p (or-false a ∙ q)

  -- No value is possible, as no variable is unnamed.
  pub standing-possible : (pairs : Set) (words : List ℕ) → atoms sizes ≤ word_bits * length words → ((f : ℕ) → has words f ≡ false) → HoldsPossible sizes pairs (standing state) words
  unfolding possible_atoms
  standing-possible pairs words room none = record {
    room = room;
    each = λ f. none f ∙ sym (some-not (length sizes) _ (λ u l. and-none-left (not (names (standing state) u)) _ (ap not (named u l))));
  }

-- ---- made in turns

-- The first k variables and values are stored.
pub record Stored (state variables values : List ℕ) (k : ℕ) : Type 0 where
  pub variable : (i : ℕ) → i < k → get_or variables i 0 ≡ i
  pub held : (i : ℕ) → i < k → get_or values i 0 ≡ value state i

pub stored-standing : (state variables values : List ℕ) (k : ℕ) → Stored state variables values k → length state ≤ k
    → operator_in (record { count = length state; variables = variables; befores = values; afters = values }) ≡ standing state
unfolding operator_in standing
stored-standing state variables values k stored l = table-cong (length state) _ _ (λ i h. rw (stored.variable i (omega arith), stored.held i (omega arith)) refl)

-- ---- as code holds it

module _ (sizes pairs state : List ℕ) (o : Operator) (listed : Listed sizes pairs) (full : State sizes state) (made : o ≡ standing state) where
  pub held-ready : Ready sizes pairs o
  held-ready = rw made (ready-is listed (standing-is sizes state full listed.limits.variables.0))

  pub held-possible : (k : ℕ) → atoms sizes ≤ word_bits * k → HoldsPossible sizes (has pairs) o (replicate k 0)
  held-possible k h = rw made (standing-possible sizes state full (has pairs) (replicate k 0) (rw (length-replicate {A = ℕ} k 0) h) (λ f. has-none k f))

-- The entries of an operator in three lists.
use Prim.Native.Nat.{ℕ, zero, suc, ◌<◌, ◌≤◌}
use Rattle.std.specs.Prelude.{◌≡◌, refl, ◌||◌, Option, Some, None, is_some, List, [], ◌∷◌, length, get_or, take, eqb}
use Rattle.std.specs.List.{list_any}
use Rattle.std.proofs.Common.{sym, ap, ◌∙◌, arith, eq-eqb, ne_eqb, length-take-le}
use Rattle.std.proofs.Math.Seq.{get_or-take}
use Rattle.meaning.specs.Task.{Entry, Operator, names}
use Rattle.meaning.specs.Sets.{table, any_of}
use Rattle.meaning.specs.Answer.{operator_in}
use Rattle.theory.specs.Flat.{length-table, get_d-table, table-cong, get_d-in, in-get_d}
use Rattle.theory.specs.Search.{any_at, any-not}
use Rattle.theory.specs.Given.{entry_of}
use Rattle.theory.specs.Walk.{entry_at}

-- The entry at a place of the lists.
abbrev pub entry_in : List ℕ → List ℕ → List ℕ → ℕ → Entry
entry_in variables befores afters k = entry_of (get_or variables k 0) (get_or befores k 0) (get_or afters k 0)

-- The operator of the entries below a count, and of all of them.
abbrev pub held_in : ℕ → List ℕ → List ℕ → List ℕ → Operator
held_in count variables befores afters = operator_in (record { count = count; variables = variables; befores = befores; afters = afters })

abbrev pub entries_in : List ℕ → List ℕ → List ℕ → Operator
entries_in variables befores afters = held_in (length variables) variables befores afters

module _ (count : ℕ) (variables befores afters : List ℕ) where
  pub length-held : length (held_in count variables befores afters) ≡ count
  unfolding operator_in
  length-held = length-table count _

  pub entry-held : (k : ℕ) → k < count → entry_at (held_in count variables befores afters) k ≡ entry_in variables befores afters k
  unfolding operator_in
  entry-held k l = get_d-table count _ k _ l

  -- The entries below a count are those of the first parts.
  pub held-parts : count ≤ length variables → held_in count variables befores afters ≡ entries_in (take count variables) (take count befores) (take count afters)
  unfolding operator_in
  held-parts h = rw (length-take-le count variables h) (table-cong count _ _ (λ k l.
      rw (get_or-take count variables k 0 l, get_or-take count befores k 0 l, get_or-take count afters k 0 l)))

take-table : {A : Type 0} (n m : ℕ) (f : ℕ → A) → n ≤ m → take n (table m f) ≡ table n f
unfolding table
take-table zero m f h = refl
take-table (suc n) zero f h = absurd (omega arith)
take-table (suc n) (suc m) f h = ap (◌∷◌ (f 0)) (take-table n m (λ i. f (suc i)) (omega arith))

-- The first entries stand in the first parts of the lists.
pub take-parts : (n : ℕ) (variables befores afters : List ℕ) → n ≤ length variables
    → entries_in (take n variables) (take n befores) (take n afters) ≡ take n (entries_in variables befores afters)
unfolding operator_in
take-parts n variables befores afters h = sym (held-parts n variables befores afters h) ∙ sym (take-table n (length variables) _ h)

-- ---- the entry of a variable

-- The first entry of a variable, where it has one.
abbrev pub Named : Operator → ℕ → Option Entry → Type 0
Named o u (Some e) = (k : ℕ) × (k < length o) × (e ≡ entry_at o k) × (e.variable ≡ u) × ((i : ℕ) → i < k → (entry_at o i).variable ≡ u → ⊥)
Named o u None = (i : ℕ) → i < length o → (entry_at o i).variable ≡ u → ⊥

pub named-names : (o : Operator) (u : ℕ) (found : Option Entry) → Named o u found → is_some found ≡ names o u
unfolding names
named-names o u (Some e) (k, within, there, same, earlier) = sym (any_at _ o e (rw there (get_d-in o k _ within)) (eq-eqb e.variable u same))
named-names o u None apart = sym (any-not _ o (λ e member. let (k, within, there) = in-get_d o e (entry_of 0 0 0) member in ne_eqb e.variable u (λ same. apart k within (ap (λ x. x.variable) there ∙ same))))

-- A variable is named where it stands among those of the entries, whatever the before and after values are.
any-variable : (u : ℕ) (variables : List ℕ) (before after : ℕ → ℕ)
    → list_any (λ y. eqb y u) variables ≡ any_of (λ e. eqb e.variable u) (table (length variables) (λ k. entry_of (get_or variables k 0) (before k) (after k)))
unfolding any_of table
any-variable u [] before after = refl
any-variable u (v ∷ vs) before after = ap (◌||◌ (eqb v u)) (any-variable u vs (λ k. before (suc k)) (λ k. after (suc k)))

pub names-listed : (variables befores afters : List ℕ) (u : ℕ) → list_any (λ y. eqb y u) variables ≡ names (entries_in variables befores afters) u
unfolding names operator_in
names-listed variables befores afters u = any-variable u variables (λ k. get_or befores k 0) (λ k. get_or afters k 0)

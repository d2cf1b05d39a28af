-- Laws of operators: what their entries say, which variables they name, and what they make of a state.
use Rattle.std.specs.Prelude.{ℕ, suc, ◌<◌, ◌≤◌, ◌≡◌, ◌≢◌, true, false, cond, length, set, eqb}
use Rattle.std.proofs.Math.Path.{refl, sym}
use Rattle.std.proofs.Common.{ap, subst, ◌∙◌, arith, length-set, get_or-set_same}
use mathlib.Core.List.Memᴰ.{head as here}
use mathlib.Core.List.Memᴰ.{tail as there}
use mathlib.Core.List.{List, [], ◌∷◌, Memᴰ as In}
use Rattle.std.proofs.Math.Seq.{get_or-set_other}
use borrow.Author.Tests.{eqb-true, eqb-false, eq-eqb, ne_eqb}
use Rattle.meaning.specs.Sets.{any_of}
use Rattle.meaning.specs.Task.{Entry, Operator, State, Entries, names, applies, applied, value, size}
use Rattle.theory.specs.Truth.{on, off, test, clash}
use Rattle.theory.specs.Search.{any_at, any-get, all-each, all-at, Earlier, first, further, earlier-by}

-- What the entry for a variable says; 0 where the variable is not named.
unfoldable pub field_of : (Entry → ℕ) → Operator → ℕ → ℕ
field_of field [] i = 0
field_of field (e ∷ es) i = cond (eqb e.variable i) (field e) (field_of field es i)

abbrev pub before_of : Operator → ℕ → ℕ
before_of o = field_of (λ e. e.before) o

abbrev pub after_of : Operator → ℕ → ℕ
after_of o = field_of (λ e. e.after) o

-- ---- entries and names

pub names_in : (o : Operator) (e : Entry) → In e o → names o e.variable ≡ true
unfolding names
names_in o e m = any_at _ o e m (eq-eqb e.variable e.variable refl)

-- A variable that it does not name is none of its entries'.
pub unnamed-apart : (o : Operator) (e : Entry) (u : ℕ) → In e o → names o u ≡ false → e.variable ≢ u
unnamed-apart o e u m q z = clash (names_in o e m) (ap (names o) z ∙ q)

pub entry_of : (o : Operator) (i : ℕ) → names o i ≡ true → (e : Entry) × In e o × (e.variable ≡ i)
unfolding names
entry_of o i h = let (e, m, q) = any-get _ o h in (e, m, eqb-true e.variable i q)

-- What holds at the variable of each entry holds at each variable that is named.
pub by_name : (P : ℕ → Type 0) (o : Operator) (i : ℕ) → ((e : Entry) → In e o → P e.variable) → names o i ≡ true → P i
by_name P o i h q = let (e, m, z) = entry_of o i q in subst P z (h e m)

pub length-applied : (o : Operator) (s : List ℕ) → length (applied o s) ≡ length s
unfolding applied
length-applied [] s = refl
length-applied (e ∷ es) s = length-applied es (set s e.variable e.after) ∙ length-set s e.variable e.after

module _ (sizes : List ℕ) where
  fine_along : (e : Entry) (k : ℕ) (o : Operator) → In e o → Entries sizes k o
      → (k ≤ e.variable) × (e.variable < length sizes) × (e.before < size sizes e.variable) × (e.after < size sizes e.variable)
  fine_along e k o (here {x} {xs} q) h = rw q (h.0, h.1, h.2, h.3)
  fine_along e k o (there {x} {xs} m) h = let r = fine_along e (suc x.variable) xs m h.4 in (omega (arith, h.0, r.0), r.1, r.2, r.3)

  -- The ranges of an entry.
  pub in-fine : (k : ℕ) (o : Operator) (e : Entry) → In e o → Entries sizes k o
      → (k ≤ e.variable) × (e.variable < length sizes) × (e.before < size sizes e.variable) × (e.after < size sizes e.variable)
  in-fine k o e = fine_along e k o

  pub names-below : (k : ℕ) (o : Operator) (i : ℕ) → Entries sizes k o → i < k → names o i ≡ false
  names-below k o i h l = elim (test (names o i)) [
    | on q ↦ let low : k ≤ i = by_name (λ j. k ≤ j) o i (λ e m. (in-fine k o e m h).0) q in absurd (omega arith)
    | off q ↦ q
  ]

  pub names-range : (k : ℕ) (o : Operator) (i : ℕ) → Entries sizes k o → names o i ≡ true → i < length sizes
  names-range k o i h = by_name (λ j. j < length sizes) o i (λ e m. (in-fine k o e m h).1)

  rise_along : (e e' : Entry) (k : ℕ) (o : Operator) → Entries sizes k o → Earlier e e' o → e.variable < e'.variable
  rise_along e e' k o h (first {x} {l} q m) = rw q (in-fine (suc x.variable) l e' m h.4).0
  rise_along e e' k o h (further {x} {l} t) = rise_along e e' (suc x.variable) l h.4 t

  pub entries-rise : (k : ℕ) (o : Operator) (e e' : Entry) → Entries sizes k o → Earlier e e' o → e.variable < e'.variable
  entries-rise k o e e' = rise_along e e' k o

  -- Of two entries the one with the smaller variable stands first: `two_none` and `two_at` then speak of any two.
  pub entries-earlier : (k : ℕ) (o : Operator) (e e' : Entry) → Entries sizes k o → In e o → In e' o → e.variable < e'.variable → Earlier e e' o
  entries-earlier k o e e' h = earlier-by (λ x. x.variable) o (λ a b. entries-rise k o a b h) e e'

  field_along : (field : Entry → ℕ) (e : Entry) (k : ℕ) (o : Operator) → In e o → Entries sizes k o → field_of field o e.variable ≡ field e
  unfolding field_of
  field_along field e k o (here {x} {xs} q) h = rw (q, eq-eqb x.variable x.variable refl)
  field_along field e k o (there {x} {xs} m) h =
      rw (ne_eqb x.variable e.variable (λ z. omega (arith, (in-fine (suc x.variable) xs e m h.4).0))) (field_along field e (suc x.variable) xs m h.4)

  -- The entry for its variable is found.
  pub field_at : (field : Entry → ℕ) (k : ℕ) (o : Operator) (e : Entry) → In e o → Entries sizes k o → field_of field o e.variable ≡ field e
  field_at field k o e = field_along field e k o

  pub before-range : (k : ℕ) (o : Operator) (i : ℕ) → Entries sizes k o → names o i ≡ true → before_of o i < size sizes i
  before-range k o i h = by_name (λ j. before_of o j < size sizes j) o i (λ e m. rw (field_at (λ x. x.before) k o e m h) (in-fine k o e m h).2)

  pub after-range : (k : ℕ) (o : Operator) (i : ℕ) → Entries sizes k o → names o i ≡ true → after_of o i < size sizes i
  after-range k o i h = by_name (λ j. after_of o j < size sizes j) o i (λ e m. rw (field_at (λ x. x.after) k o e m h) (in-fine k o e m h).3)

  -- ---- what an operator needs and makes

  pub applies-value : (k : ℕ) (o : Operator) (s : List ℕ) (i : ℕ) → Entries sizes k o → applies o s ≡ true → names o i ≡ true → value s i ≡ before_of o i
  unfolding applies
  applies-value k o s i h a = by_name (λ j. value s j ≡ before_of o j) o i (λ e m. eqb-true _ _ (all-at _ o a e m) ∙ sym (field_at _ k o e m h))

  pub value-applies : (k : ℕ) (o : Operator) (s : List ℕ) → Entries sizes k o → ((i : ℕ) → names o i ≡ true → value s i ≡ before_of o i) → applies o s ≡ true
  unfolding applies
  value-applies k o s h q = all-each _ o (λ e m. eq-eqb _ _ (q e.variable (names_in o e m) ∙ field_at _ k o e m h))

  pub applied-value : (k : ℕ) (o : Operator) (s : List ℕ) (i : ℕ) → Entries sizes k o → length s ≡ length sizes
      → value (applied o s) i ≡ cond (names o i) (after_of o i) (value s i)
  unfolding applied names any_of field_of
  applied-value k [] s i h l = refl
  applied-value k (e ∷ es) s i h l =
      applied-value (suc e.variable) es (set s e.variable e.after) i h.4 (length-set s e.variable e.after ∙ l) ∙ elim (test (eqb e.variable i)) [
        | on q ↦ rw (q, names-below (suc e.variable) es i h.4 (omega (arith, eqb-true e.variable i q))) (changed (eqb-true e.variable i q))
        | off q ↦ rw (q, get_or-set_other s e.variable i e.after 0 (λ z. eqb-false e.variable i q (sym z))) refl
      ]
    where
      changed : e.variable ≡ i → value (set s e.variable e.after) i ≡ e.after
      changed z = rw z (get_or-set_same s i e.after 0 (omega (arith, h.1)))

  pub state-applied : (k : ℕ) (o : Operator) (s : List ℕ) → Entries sizes k o → State sizes s → State sizes (applied o s)
  state-applied k o s h t = record {
    full = length-applied o s ∙ t.full;
    values = λ i l. rw (applied-value k o s i h t.full) (elim (test (names o i)) [ on q ↦ rw q (after-range k o i h q) | off q ↦ rw q (t.values i l) ]);
  }

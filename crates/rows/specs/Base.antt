-- The base state from the set of possible atoms.
use Prim.Native.Nat.{ℕ, zero, suc, ◌+◌, ◌<◌, ◌≤◌}
use Rattle.std.specs.Prelude.{◌≡◌, refl, ◌≢◌, true, cond, List, get_or, set, Option, Some, None, unwrap_or}
use Rattle.std.proofs.Math.Path.{sym}
use Rattle.std.proofs.Common.{◌∙◌, arith, ne_of_lt, add-one, length-set, get_or-set_same}
use Rattle.std.proofs.Math.ListN.{length}
use Rattle.std.proofs.Math.Seq.{get_or-set_other, ext_get_or}
use Rattle.meaning.specs.Sets.{Set, table}
use Rattle.meaning.specs.Task.{Operator, names, size}
use Rattle.meaning.specs.Feature.{atoms, single}
use Rattle.theory.specs.Truth.{on, off, test, less, same, more, order}
use Rattle.theory.specs.Flat.{length-table, get_d-table, table-cong}
use Rattle.theory.specs.Numbering.{single-below}
use Rattle.theory.specs.Operators.{before_of}
use Rattle.theory.specs.Slots.{lead, lead-none, lead-least}
use Rattle.theory.specs.Possible.{possible_atoms, possible-at}
use Rattle.theory.specs.Given.{Given, entry-fine, entries-rise}
use Rattle.theory.specs.Rows.{base_value, base}
use Rattle.theory.specs.Walk.{entry_at, place_of, before-place}
use Rattle.words.specs.Next.{Clear}
use Rattle.rows.specs.Given.{entry_other}

-- The values of a variable whose atoms are in a set.
abbrev pub atoms_at : List ℕ → Set → ℕ → Set
atoms_at sizes possible u y = possible (single sizes u y)

unfoldable pub least_values : List ℕ → Set → List ℕ
least_values sizes possible = table (length sizes) (λ u. lead (size sizes u) (atoms_at sizes possible u))

-- A state with the before values of the first n entries put in.
unfoldable pub with_befores : ℕ → Operator → List ℕ → List ℕ
with_befores zero o s = s
with_befores (suc k) o s = set (with_befores k o s) (entry_at o k).variable (entry_at o k).before

-- The before values, and elsewhere the least values in the set.
unfoldable pub base_by : List ℕ → Operator → Set → List ℕ
base_by sizes o possible = table (length sizes) (λ u. cond (names o u) (before_of o u) (lead (size sizes u) (atoms_at sizes possible u)))

-- ---- the least member at a number or above it

-- The number x is the least member of a set from `start` on, and below n.
pub record Found (a : Set) (n start x : ℕ) : Type 0 where
  pub above : start ≤ x
  pub below : x < n
  pub clear : Clear a start x
  pub member : a x ≡ true

-- The least member of a set from `start` on and below n; there is none.
abbrev pub Least : Set → ℕ → ℕ → Option ℕ → Type 0
Least a n start (Some x) = Found a n start x
Least a n start None = Clear a start n

-- From 0 on it is the least member of all.
pub least-lead : (a : Set) (n : ℕ) (r : Option ℕ) → Least a n 0 r → unwrap_or r n ≡ lead n a
least-lead a n (Some x) h = sym (lead-least n x a h.below (record { member = h.member; first = λ f k. h.clear f (omega arith) k }))
least-lead a n None h = sym (lead-none n a (λ f l. h f (omega arith) l))

-- ---- turns of the loops

pub befores-turn : (k : ℕ) (o : Operator) (s l : List ℕ) → l ≡ with_befores k o s → set l (entry_at o k).variable (entry_at o k).before ≡ with_befores (k + 1) o s
unfolding with_befores
befores-turn k o s l e = rw (e, add-one) refl

pub length-least : (sizes : List ℕ) (possible : Set) → length (least_values sizes possible) ≡ length sizes
unfolding least_values
length-least sizes possible = length-table (length sizes) _

pub least_at : (sizes : List ℕ) (possible : Set) (u : ℕ) → u < length sizes → get_or (least_values sizes possible) u 0 ≡ lead (size sizes u) (atoms_at sizes possible u)
unfolding least_values
least_at sizes possible u l = get_d-table {A = ℕ} (length sizes) _ u 0 l

-- ---- the base state

pub length-befores : (n : ℕ) (o : Operator) (s : List ℕ) → length (with_befores n o s) ≡ length s
unfolding with_befores
length-befores zero o s = refl
length-befores (suc k) o s = length-set {A = ℕ} (with_befores k o s) _ _ ∙ length-befores k o s

-- Where no entry stands the value stays.
befores-other : (n : ℕ) (o : Operator) (s : List ℕ) (i : ℕ) → ((k : ℕ) → k < n → i ≢ (entry_at o k).variable) → get_or (with_befores n o s) i 0 ≡ get_or s i 0
unfolding with_befores
befores-other zero o s i d = refl
befores-other (suc k) o s i d = get_or-set_other (with_befores k o s) (entry_at o k).variable i _ 0 (d k (omega arith)) ∙ befores-other k o s i (λ j l. d j (omega arith))

lead-cong : (n : ℕ) (a b : Set) → ((f : ℕ) → f < n → a f ≡ b f) → lead n a ≡ lead n b
unfolding lead
lead-cong zero a b h = refl
lead-cong (suc n) a b h = rw (lead-cong n a b (λ f l. h f (omega arith)), h n (omega arith))

module _ {sizes : List ℕ} {o : Operator} (given : Given sizes o) where
  befores-at : (s : List ℕ) → length s ≡ length sizes → (n k : ℕ) → k < n → n ≤ length o → get_or (with_befores n o s) (entry_at o k).variable 0 ≡ (entry_at o k).before
  unfolding with_befores
  befores-at s e zero k l r = absurd (omega arith)
  befores-at s e (suc n) k l r = elim (order k n) [
    | less j ↦ get_or-set_other (with_befores n o s) (entry_at o n).variable (entry_at o k).variable _ 0 (ne_of_lt (entries-rise given k n j (omega arith))) ∙ befores-at s e n k j (omega arith)
    | same q ↦ rw q (get_or-set_same (with_befores n o s) (entry_at o n).variable (entry_at o n).before 0 (omega (arith, entry-fine given n (omega arith), length-befores n o s)))
    | more j ↦ absurd (omega arith)
  ]

  -- The least values with the before values put in are the base state.
  pub base-filled : (possible : Set) (s : List ℕ) → s ≡ least_values sizes possible → with_befores (length o) o s ≡ base_by sizes o possible
  unfolding base_by
  base-filled possible s e = ext_get_or 0 _ _ (length-befores (length o) o s ∙ long ∙ sym (length-table (length sizes) _))
      (λ i l. each i (omega (arith, length-befores (length o) o s, long)) ∙ sym (get_d-table {A = ℕ} (length sizes) _ i 0 (omega (arith, length-befores (length o) o s, long))))
    where
      long : length s ≡ length sizes
      long = rw e (length-least sizes possible)

      named : (k : ℕ) → k < length o → get_or (with_befores (length o) o s) (entry_at o k).variable 0 ≡ before_of o (entry_at o k).variable
      named k l = befores-at s long (length o) k l (omega arith) ∙ sym (before-place sizes o given.entries k l)

      each : (i : ℕ) → i < length sizes → get_or (with_befores (length o) o s) i 0 ≡ cond (names o i) (before_of o i) (lead (size sizes i) (atoms_at sizes possible i))
      each i l = elim (test (names o i)) [
        | on q ↦ let (k, j, z) = place_of sizes o given.entries i q in rw q (rw z at (named k j))
        | off q ↦ rw q (befores-other (length o) o s i (λ k j. entry_other given i k q j) ∙ (rw e (least_at sizes possible i l)))
      ]

-- For the set of an operator's possible atoms it is the base state of the meaning.
pub base-by : (sizes : List ℕ) (pairs : Set) (o : Operator) (possible : Set) → ((f : ℕ) → f < atoms sizes → possible f ≡ possible_atoms sizes pairs o f) → base_by sizes o possible ≡ base sizes pairs o
unfolding base_by base base_value
base-by sizes pairs o possible agree = table-cong (length sizes) _ _ (λ u l. elim (test (names o u)) [
  | on q ↦ rw q refl
  | off q ↦ rw q (lead-cong (size sizes u) _ _ (λ y k. agree _ (single-below sizes u y k) ∙ possible-at sizes pairs o u y l k ∙ rw q refl))
])

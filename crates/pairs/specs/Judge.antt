-- Whether an operator is idle, by its entries and by the table of its possible atoms.
use Rattle.std.specs.Prelude.{ℕ, zero, suc, ◌+◌, ◌<◌, ◌≡◌, Bool, true, false, ◌&&◌, cond, length, take}
use Rattle.std.proofs.Math.Path.{refl, sym, ap}
use Rattle.std.proofs.Math.Logic.{inl, inr}
use Rattle.std.proofs.Common.{◌∙◌, ne_eqb}
use Rattle.std.proofs.Math.Bool.{not}
use mathlib.Core.List.Memᴰ.{head as here}
use mathlib.Core.List.Memᴰ.{tail as there}
use mathlib.Core.List.Memᴰ.{cases_cons}
use mathlib.Core.List.Memᴰ.{not-nil}
use mathlib.Core.List.{List, [], ◌∷◌, Memᴰ as In}
use native.Mathlib.Omega.{arith}
use Rattle.meaning.specs.Sets.{Set, some}
use Rattle.meaning.specs.Task.{Entry, Operator, Entries, names, size}
use Rattle.meaning.specs.Feature.{single}
use Rattle.meaning.specs.Workspace.{has}
use Rattle.meaning.specs.Pair.{possible, clashing, stuck, idle, closed}
use Rattle.theory.specs.Truth.{on, off, test}
use Rattle.theory.specs.Search as search
use Rattle.theory.specs.Search.{true-together, or_left, some_at, some-get, some-cong, any_at, any-get, any-not, two_at, two-get, first, further, earlier-left, earlier-cases}
use Rattle.theory.specs.Flat.{get_d-in, in-get_d}
use Rattle.theory.specs.Operators.{entries-rise}
use Rattle.theory.specs.Walk.{entry_at}
use Rattle.theory.specs.Given.{entry_of, entry-fine}
use Rattle.theory.specs.Possible.{possible-at}
use Rattle.theory.specs.Mending.{beside_in}
use Rattle.pairs.specs.Ready.{Ready, ready-given, HoldsPossible}

-- ---- definitions

-- A set has an atom of a variable.
unfoldable pub valued : List ℕ → Set → ℕ → Bool
valued sizes set u = some (size sizes u) (λ y. set (single sizes u y))

-- Of some unnamed variable a set has an atom, or has none, as is asked.
unfoldable pub unnamed_in : List ℕ → Set → Operator → Bool → Bool
unnamed_in sizes set o asked = some (length sizes) (λ u. not (names o u) && cond asked (valued sizes set u) (not (valued sizes set u)))

-- The values of a variable count on from its first atom.
pub valued-from : (sizes : List ℕ) (set : Set) (u start d : ℕ) → start ≡ single sizes u 0 → d ≡ size sizes u → some d (λ y. set (start + y)) ≡ valued sizes set u
unfolding valued single
valued-from sizes set u start d e q = rw q (some-cong (size sizes u) _ _ (λ y l. ap set (omega (arith, e))))

-- ---- idle

pub closed-idle : (sizes : List ℕ) (pairs : Set) (o : Operator) → idle sizes pairs o ≡ true → closed sizes pairs o ≡ true
unfolding closed
closed-idle sizes pairs o e = or_left _ _ e

pub unnamed-beside : (sizes : List ℕ) (set : Set) (o : Operator) → unnamed_in sizes set o true ≡ beside_in sizes set o
unfolding unnamed_in valued beside_in
unnamed-beside sizes set o = refl

-- ---- two before atoms

-- The entries before a place, and a value of the variable of the entry there.
pub record Earlier (sizes pairs : List ℕ) (o : Operator) (l : ℕ) : Type 0 where
  pub ready : Ready sizes pairs (take l o)
  pub unnamed : names (take l o) (entry_at o l).variable ≡ false
  pub place : (entry_at o l).variable < length sizes
  pub value : (entry_at o l).before < size sizes (entry_at o l).variable

entries-take : (sizes : List ℕ) (low l : ℕ) (o : Operator) → Entries sizes low o → Entries sizes low (take l o)
entries-take sizes low zero o h = tt
entries-take sizes low (suc l) [] h = tt
entries-take sizes low (suc l) (e ∷ es) h = (h.0, h.1, h.2, h.3, entries-take sizes (suc e.variable) l es h.4)

-- What stands before a place stands earlier than what is there, and so it is with any two.
earlier-take : (o : Operator) (l : ℕ) (a : Entry) → l < length o → In a (take l o) → search.Earlier a (entry_at o l) o
earlier-take [] l a h m = absurd (omega arith)
earlier-take (e ∷ es) zero a h m = absurd (not-nil m)
earlier-take (e ∷ es) (suc l) a h m = elim (cases_cons m) [ inl q ↦ first q (get_d-in es l _ (omega arith)) | inr k ↦ further (earlier-take es l a (omega arith) k) ]

take-earlier : (o : Operator) (a b : Entry) → search.Earlier a b o → (l : ℕ) × (l < length o) × (b ≡ entry_at o l) × In a (take l o)
take-earlier [] a b t = absurd (not-nil (earlier-left t))
take-earlier (e ∷ es) a b t = elim (earlier-cases t) [
  | inl m ↦ let (l, h, z) = in-get_d es b (entry_of 0 0 0) m.1 in (suc l, omega arith, sym z, here m.0)
  | inr t' ↦ let (l, h, z, m) = take-earlier es a b t' in (suc l, omega arith, z, there m)
]

pub earlier-ready : (sizes pairs : List ℕ) (o : Operator) (l : ℕ) → Ready sizes pairs o → l < length o → Earlier sizes pairs o l
unfolding names
earlier-ready sizes pairs o l ready h = let own = entry-fine (ready-given ready) l h in record {
  ready = record { limits = ready.limits; due = ready.due; entries = entries-take sizes 0 l o ready.entries };
  unnamed = any-not _ (take l o) (λ e m. ne_eqb e.variable (entry_at o l).variable (λ q. omega (arith, entries-rise sizes 0 o e (entry_at o l) ready.entries (earlier-take o l e h m), q)));
  place = own.0;
  value = own.1;
}

-- Two before atoms are paired if one is not possible beside those before it.
pub clashing-places : (sizes : List ℕ) (pairs : Set) (o : Operator)
    → some (length o) (λ l. not (possible sizes pairs (take l o) (entry_at o l).variable (entry_at o l).before)) ≡ clashing sizes pairs o
unfolding clashing possible
clashing-places sizes pairs o = true-together _ _
    (λ t. let (l, h, q) = some-get (length o) _ t in let (a, m, z) = any-get _ (take l o) (twice _ q) in two_at _ o a (entry_at o l) (earlier-take o l a h m) z)
    (λ t. let (a, b, e, q) = two-get _ o t in let (l, h, z, m) = take-earlier o a b e in
    some_at (length o) _ l h (ap (λ x. not (not x)) (any_at _ (take l o) a m (rw (← z) q))))
  where
    twice : (x : Bool) → not (not x) ≡ true → x ≡ true
    twice true e = refl
    twice false e = e

-- ---- by the table of possible atoms

module _ (sizes : List ℕ) (pairs : Set) (o : Operator) (words : List ℕ) (t : HoldsPossible sizes pairs o words) where
  -- An atom of an unnamed variable is in the table if its value is possible.
  pub possible-word : (u y : ℕ) → u < length sizes → y < size sizes u → names o u ≡ false → has words (single sizes u y) ≡ possible sizes pairs o u y
  possible-word u y l j q = t.each (single sizes u y) ∙ possible-at sizes pairs o u y l j ∙ rw q refl

  stuck-table : unnamed_in sizes (has words) o false ≡ stuck sizes pairs o
  unfolding stuck valued unnamed_in
  stuck-table = some-cong (length sizes) _ _ (λ u l. elim (test (names o u)) [
    | on q ↦ rw q refl
    | off q ↦ ap (λ b. not (names o u) && not b) (some-cong (size sizes u) _ _ (λ y j. possible-word u y l j q))
  ])

  -- Idle by the table, where no two before atoms are paired.
  pub idle-stuck : clashing sizes pairs o ≡ false → unnamed_in sizes (has words) o false ≡ idle sizes pairs o
  unfolding idle
  idle-stuck e = stuck-table ∙ sym (rw e refl)

pub idle-clashing : (sizes : List ℕ) (pairs : Set) (o : Operator) → clashing sizes pairs o ≡ true → idle sizes pairs o ≡ true
unfolding idle
idle-clashing sizes pairs o e = or_left _ _ e

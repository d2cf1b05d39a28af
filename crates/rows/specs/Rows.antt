-- The rows that the code makes one after another are the rows of an operator.
use Prim.Native.Nat.{ℕ, zero, suc, ◌+◌, ◌<◌}
use Rattle.std.specs.Prelude.{◌≡◌, Bool, not, ◌&&◌, length, Option, Some, None}
use Rattle.std.proofs.Math.Path.{refl, ap}
use Rattle.std.proofs.Common.{sym, ◌∙◌}
use Rattle.std.proofs.Math.Bool.{true, false, cond}
use mathlib.Core.List.Memᴰ.{head as here}
use mathlib.Core.List.{List, [], ◌∷◌, ◌++◌, map, map-append}
use borrow.Author.Tests.{not-true}
use Rattle.meaning.specs.Sets.{Set, flat}
use Rattle.meaning.specs.Task.{Operator, names, size}
use Rattle.meaning.specs.Feature.{atoms}
use Rattle.meaning.specs.Pair.{idle, possible}
use Rattle.theory.specs.Search.{and_left}
use Rattle.theory.specs.Flat.{flat-cong}
use Rattle.theory.specs.Numbering.{single-below}
use Rattle.theory.specs.Possible.{possible_atoms, possible-at}
use Rattle.theory.specs.Rows.{change, base, base-value, apart, wanted, busy_rows, rows_of}
use Rattle.rows.specs.declared.Value.{Value}
use Rattle.rows.specs.Change.{difference}
use Rattle.rows.specs.Base.{atoms_at}
use Rattle.rows.specs.Apart.{wanted_by, wanted_from, values_on, from_in, wanted-all}

-- The difference rows from value y of variable u on.
unfoldable pub aparts_from : List ℕ → Operator → Set → List ℕ → ℕ → ℕ → List Set
aparts_from sizes o atoms s u y = map (λ p. difference sizes o s p.0 p.1) (wanted_from sizes (wanted_by sizes atoms s) u y)

-- The same rows from the first one, by the code's answer.
abbrev pub aparts_on : List ℕ → Operator → Set → List ℕ → Option Value → List Set
aparts_on sizes o atoms s (Some first) = difference sizes o s first.variable first.value ∷ aparts_from sizes o atoms s first.variable (first.value + 1)
aparts_on sizes o atoms s None = []

module _ (sizes : List ℕ) (o : Operator) (atoms : Set) (s : List ℕ) (u y : ℕ) where
  pub aparts-next : (r : Option Value) → wanted_from sizes (wanted_by sizes atoms s) u y ≡ values_on sizes (wanted_by sizes atoms s) r → aparts_from sizes o atoms s u y ≡ aparts_on sizes o atoms s r
  unfolding aparts_from
  aparts-next r e = ap (map (λ p. difference sizes o s p.0 p.1)) e ∙ go r
    where
      go : (r : Option Value) → map (λ p. difference sizes o s p.0 p.1) (values_on sizes (wanted_by sizes atoms s) r) ≡ aparts_on sizes o atoms s r
      go (Some first) = refl
      go None = refl

map-flat : {A B : Type 0} (f : A → B) (n : ℕ) (g : ℕ → List A) → map f (flat n g) ≡ flat n (λ i. map f (g i))
unfolding flat
map-flat f zero g = refl
map-flat f (suc n) g = map-append f (flat n g) (g n) ∙ ap (λ l. l ++ map f (g n)) (map-flat f n g)

module _ (sizes : List ℕ) (pairs : Set) (o : Operator) (possibles : Set) (agree : (f : ℕ) → f < atoms sizes → possibles f ≡ possible_atoms sizes pairs o f) where
  atom-possible : (u y : ℕ) → u < length sizes → y < size sizes u → atoms_at sizes possibles u y ≡ (not (names o u) && possible sizes pairs o u y)
  atom-possible u y l k = agree _ (single-below sizes u y k) ∙ possible-at sizes pairs o u y l k

  -- A wanted value is in range, and its variable is not named.
  pub apart_ready : (s : List ℕ) (u y : ℕ) (r : Value) → wanted_from sizes (wanted_by sizes possibles s) u y ≡ values_on sizes (wanted_by sizes possibles s) (Some r)
      → (r.variable < length sizes) × (r.value < size sizes r.variable) × (names o r.variable ≡ false)
  unfolding wanted_by
  apart_ready s u y r e =
      let (l, k, q) = from_in sizes (wanted_by sizes possibles s) u y (r.variable, r.value) (rw e (here refl)) in
      (l, k, not-true _ (and_left (not (names o r.variable)) (possible sizes pairs o r.variable r.value) (sym (atom-possible r.variable r.value l k) ∙ and_left (atoms_at sizes possibles r.variable r.value) _ q)))

  wanted-same : (u y : ℕ) → u < length sizes → y < size sizes u → wanted_by sizes possibles (base sizes pairs o) u y ≡ wanted sizes pairs o u y
  unfolding wanted_by wanted
  wanted-same u y l k = rw (atom-possible u y l k, base-value sizes pairs o u l) (regroup (not (names o u)) (possible sizes pairs o u y) _)
    where
      regroup : (a b c : Bool) → ((a && b) && c) ≡ (a && (b && c))
      regroup true b c = refl
      regroup false b c = refl

  -- The rows of an operator: the change at the base state, and the difference rows from the first value on.
  pub rows_made : rows_of sizes pairs o ≡ cond (idle sizes pairs o) [] (change sizes o (base sizes pairs o) ∷ aparts_from sizes o possibles (base sizes pairs o) 0 0)
  unfolding rows_of busy_rows aparts_from apart difference
  rows_made = ap (λ l. cond (idle sizes pairs o) [] (change sizes o (base sizes pairs o) ∷ l)) (sym listed)
    where
      row : ℕ × ℕ → Set
      row p = difference sizes o (base sizes pairs o) p.0 p.1

      one : (b : Bool) (p : ℕ × ℕ) → map row (cond b (p ∷ []) []) ≡ cond b (row p ∷ []) []
      one true p = refl
      one false p = refl

      listed : map row (wanted_from sizes (wanted_by sizes possibles (base sizes pairs o)) 0 0)
          ≡ flat (length sizes) (λ u. flat (size sizes u) (λ y. cond (wanted sizes pairs o u y) (apart sizes pairs o u y ∷ []) []))
      listed = ap (map row) (wanted-all sizes _) ∙ map-flat row (length sizes) _
          ∙ flat-cong (length sizes) _ _ (λ u l. map-flat row (size sizes u) _ ∙ flat-cong (size sizes u) _ _ (λ y k. one (wanted_by sizes possibles (base sizes pairs o) u y) (u, y) ∙ ap (λ b. cond b (row (u, y) ∷ []) []) (wanted-same u y l k)))

-- The possible values of an operator's unnamed variables as one set of atoms.
use Rattle.std.specs.Prelude.{ℕ, ◌<◌, ◌≡◌, refl, true, not, ◌&&◌, List, eqb, length}
use Rattle.std.proofs.Common.{eq-eqb, eqb-true}
use Rattle.meaning.specs.Sets.{Set, some}
use Rattle.meaning.specs.Task.{Operator, names, size}
use Rattle.meaning.specs.Feature.{single}
use Rattle.meaning.specs.Pair.{possible}
use Rattle.theory.specs.Search.{and_left, and_right, and_both, true-together, some_at, some-get}
use Rattle.theory.specs.Numbering.{single-only}

-- The atoms of unnamed variables that are possible.
unfoldable pub possible_atoms : List ℕ → Set → Operator → Set
possible_atoms sizes pairs o f =
    some (length sizes) (λ u. not (names o u) && some (size sizes u) (λ y. eqb f (single sizes u y) && possible sizes pairs o u y))

pub possible-at : (sizes : List ℕ) (pairs : Set) (o : Operator) (u y : ℕ) → u < length sizes → y < size sizes u
    → possible_atoms sizes pairs o (single sizes u y) ≡ (not (names o u) && possible sizes pairs o u y)
unfolding possible_atoms
possible-at sizes pairs o u y hu hy = true-together _ _ found put
  where
    moved : (u' y' : ℕ) → u ≡ u' → y ≡ y' → not (names o u') ≡ true → possible sizes pairs o u' y' ≡ true → (not (names o u) && possible sizes pairs o u y) ≡ true
    moved u' y' p q e e' = rw (p, q) (and_both (not (names o u')) (possible sizes pairs o u' y') e e')

    found : possible_atoms sizes pairs o (single sizes u y) ≡ true → (not (names o u) && possible sizes pairs o u y) ≡ true
    found e =
        let (u', hu', e') = some-get (length sizes) _ e in
        let (y', hy', e'') = some-get (size sizes u') _ (and_right (not (names o u')) _ e') in
        let same = single-only sizes u y u' y' hy hy' (eqb-true _ _ (and_left (eqb (single sizes u y) (single sizes u' y')) _ e'')) in
        moved u' y' same.0 same.1
        (and_left (not (names o u')) (some (size sizes u') (λ z. eqb (single sizes u y) (single sizes u' z) && possible sizes pairs o u' z)) e')
        (and_right (eqb (single sizes u y) (single sizes u' y')) _ e'')

    put : (not (names o u) && possible sizes pairs o u y) ≡ true → possible_atoms sizes pairs o (single sizes u y) ≡ true
    put e =
        some_at (length sizes) _ u hu
        (and_both _ _ (and_left (not (names o u)) (possible sizes pairs o u y) e)
        (some_at (size sizes u) _ y hy (and_both _ _ (eq-eqb (single sizes u y) (single sizes u y) refl) (and_right (not (names o u)) _ e))))

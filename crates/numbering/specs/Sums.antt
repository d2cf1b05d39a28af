-- Counting atoms and pairs variable by variable: what one variable more adds, and that the sums stay small.
use Rattle.std.specs.Prelude.{ℕ, zero, suc, ◌+◌, ◌*◌, ◌≤◌, ◌≡◌, refl, List, [], ◌∷◌, length, take, sum}
use Rattle.std.proofs.Common.{ap, ◌∙◌, arith, mul-add, add-mul, mul-le-mul_left, add-one, take_all}
use Rattle.std.proofs.lemmas.List.Sums.{sum_by-cons}
use Rattle.meaning.specs.Limits.{most_atoms}
use Rattle.meaning.specs.Task.{size}
use Rattle.meaning.specs.Feature.{sum_of, pairs_of, atoms, features}
use Rattle.theory.specs.Numbering.{front-room}
use Rattle.numbering.specs.Sizes.{SmallSizes, most_pairs, sum-small, pairs_small}

-- The sum of a list, in the library's word.
pub sum-atoms : (sizes : List ℕ) → sum sizes ≡ atoms sizes
unfolding atoms sum_of
sum-atoms [] = refl
sum-atoms (d ∷ ds) = sum_by-cons (λ x. x) d ds ∙ ap (λ n. d + n) (sum-atoms ds)

pub sum-next : (sizes : List ℕ) (i : ℕ) → sum_of (take (suc i) sizes) ≡ sum_of (take i sizes) + size sizes i
unfolding sum_of
sum-next [] zero = refl
sum-next [] (suc i) = refl
sum-next (d ∷ ds) zero = omega arith
sum-next (d ∷ ds) (suc i) = omega (arith, sum-next ds i)

-- The last variable's atoms are paired with all atoms before them.
pub pairs_next : (sizes : List ℕ) (i : ℕ) → pairs_of (take (suc i) sizes) ≡ pairs_of (take i sizes) + sum_of (take i sizes) * size sizes i
unfolding sum_of pairs_of
pairs_next [] zero = refl
pairs_next [] (suc i) = refl
pairs_next (d ∷ ds) zero = omega arith
pairs_next (d ∷ ds) (suc i) = rw (sum-next ds i, mul-add, add-mul) (omega (arith, pairs_next ds i))

sum-front : (sizes : List ℕ) (i : ℕ) → sum_of (take i sizes) ≤ sum_of sizes
sum-front sizes i = omega (arith, front-room sizes i)

pairs-front : (sizes : List ℕ) (i : ℕ) → pairs_of (take i sizes) ≤ pairs_of sizes
unfolding sum_of pairs_of
pairs-front [] zero = omega arith
pairs-front [] (suc i) = omega arith
pairs-front (d ∷ ds) zero = omega arith
pairs-front (d ∷ ds) (suc i) = omega (arith, mul-le-mul_left d (sum-front ds i), pairs-front ds i)

module _ (sizes : List ℕ) (i d sum : ℕ) (s : SmallSizes sizes) (own : d ≡ size sizes i) (before : sum ≡ sum_of (take i sizes)) where
  -- A turn that adds the atoms of variable i.
  pub atoms-turn : (sum + d ≡ sum_of (take (i + 1) sizes)) × (sum + d ≤ most_atoms)
  atoms-turn = rw (own, before, add-one) (omega (arith, sum-next sizes i), omega (arith, front-room sizes i, sum-small sizes s))

  -- A turn that adds their pairs with the atoms before them.
  pub pairs-turn : (pairs : ℕ) → pairs ≡ pairs_of (take i sizes) → (pairs + sum * d ≡ pairs_of (take (i + 1) sizes)) × (pairs + sum * d ≤ most_pairs)
  pairs-turn pairs e =
      rw (own, before, e, add-one)
      (omega (arith, pairs_next sizes i), omega (arith, pairs_next sizes i, pairs-front sizes (suc i), pairs_small sizes s))

-- After the last turn all features are counted.
pub counted : (sizes : List ℕ) (j sum pairs : ℕ) → length sizes ≤ j → sum ≡ sum_of (take j sizes) → pairs ≡ pairs_of (take j sizes) → sum + pairs ≡ features sizes
unfolding features atoms
counted sizes j sum pairs l e h = rw (e, h, take_all j sizes l) refl

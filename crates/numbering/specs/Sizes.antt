-- Sizes within the limits of variables and of sizes, whatever N is: the counts of their features are small. Sizes within every limit
-- have features whose numbers are below N, and N is small.
use Rattle.std.specs.Prelude.{ℕ, suc, ◌+◌, ◌*◌, ◌<◌, ◌≤◌, ◌≢◌, List, [], ◌∷◌, length}
use Rattle.std.proofs.Common.{arith, mul-le-mul}
use Rattle.meaning.specs.Limits.{most_variables, most_size, most_features, most_atoms}
use Rattle.meaning.specs.Task.{size}
use Rattle.meaning.specs.Feature.{sum_of, pairs_of, atoms, features, single, both}
use Rattle.meaning.specs.File.{InLimits}
use Rattle.theory.specs.Numbering.{atoms-room, single-below, both_below}

-- What every routine of this crate asks: N is counted before it is judged.
pub record SmallSizes (sizes : List ℕ) : Type 0 where
  pub few : length sizes ≤ most_variables
  pub small : (i : ℕ) → i < length sizes → size sizes i ≤ most_size

-- ---- small counts

abbrev pub most_pairs : ℕ
most_pairs = most_size * most_atoms * most_variables

small-rest : (d : ℕ) (ds : List ℕ) → SmallSizes (d ∷ ds) → SmallSizes ds
small-rest d ds s = record { few = omega (arith, s.few); small = λ i l. s.small (suc i) (omega arith) }

sum-each : (sizes : List ℕ) → SmallSizes sizes → sum_of sizes ≤ most_size * length sizes
unfolding sum_of
sum-each [] s = omega arith
sum-each (d ∷ ds) s = omega (arith, s.small 0 (omega arith), sum-each ds (small-rest d ds s))

pub sum-small : (sizes : List ℕ) → SmallSizes sizes → sum_of sizes ≤ most_atoms
sum-small sizes s = omega (arith, s.few, sum-each sizes s)

pairs-each : (sizes : List ℕ) → SmallSizes sizes → pairs_of sizes ≤ most_size * most_atoms * length sizes
unfolding pairs_of
pairs-each [] s = omega arith
pairs-each (d ∷ ds) s =
    let r = small-rest d ds s in
    omega (arith, mul-le-mul (s.small 0 (omega arith)) (sum-small ds r), pairs-each ds r)

pub pairs_small : (sizes : List ℕ) → SmallSizes sizes → pairs_of sizes ≤ most_pairs
pairs_small sizes s = omega (arith, s.few, pairs-each sizes s)

pub atoms-small : (sizes : List ℕ) → SmallSizes sizes → atoms sizes ≤ most_atoms
unfolding atoms
atoms-small sizes s = sum-small sizes s

pub features-small : (sizes : List ℕ) → SmallSizes sizes → features sizes ≤ most_atoms + most_pairs
unfolding features
features-small sizes s = omega (arith, atoms-small sizes s, pairs_small sizes s)

-- ---- within every limit

module _ (sizes : List ℕ) (limits : InLimits sizes) where
  pub limits-small : SmallSizes sizes
  limits-small = record { few = limits.variables.1; small = λ i l. (limits.each i l).1 }

  pub atoms-most : atoms sizes ≤ most_atoms
  atoms-most = atoms-small sizes limits-small

  pub atoms-limit : atoms sizes ≤ most_features
  atoms-limit = omega (arith, atoms-room sizes, limits.total)

  pub single-limit : (i x : ℕ) → x < size sizes i → (single sizes i x < features sizes) × (features sizes ≤ most_features)
  single-limit i x h = (omega (arith, single-below sizes i x h, atoms-room sizes), limits.total)

  pub both-limit : (i x j y : ℕ) → i ≢ j → x < size sizes i → y < size sizes j → (both sizes i x j y < features sizes) × (features sizes ≤ most_features)
  both-limit i x j y d h k = (both_below sizes i x j y d h k, limits.total)

-- The features of two variables as a plane: a first number, and a step for each value.
use Rattle.std.specs.Prelude.{ℕ, ◌+◌, ◌*◌, ◌^◌, ◌<◌, ◌≡◌, ◌≢◌, List}
use Rattle.std.proofs.Common.{arith}
use Rattle.meaning.specs.Task.{size}
use Rattle.meaning.specs.Feature.{atoms, pair_start, double, both}
use Rattle.theory.specs.Numbering.{both-less, both-more, both_below}
use Rattle.numbering.specs.declared.Plane.{Plane}
use Rattle.numbering.specs.Sizes.{SmallSizes, features-small}

abbrev pub number_in : Plane → ℕ → ℕ → ℕ
number_in plane x y = plane.first + (x * plane.step + y * plane.other)

-- A plane has the number of each feature of variables i and j.
abbrev pub Spans : List ℕ → ℕ → ℕ → (ℕ → ℕ → ℕ → ℕ → ℕ) → Plane → Type 0
Spans sizes i j feature plane = (x y : ℕ) → x < size sizes i → y < size sizes j → number_in plane x y ≡ feature i x j y

-- The plane of variables in order, from its first number: a step of the first value passes all values of the second.
pub plane-less : (sizes : List ℕ) (i j first d : ℕ) → i < j → first ≡ atoms sizes + pair_start sizes i j → d ≡ size sizes j
    → Spans sizes i j (both sizes) (record { first = first; step = d; other = 1 })
unfolding double
plane-less sizes i j first d l e g x y h k = rw (e, g, both-less sizes i x j y l) (omega arith)

-- That of variables the other way round has the steps turned round.
pub plane-more : (sizes : List ℕ) (i j first d : ℕ) → j < i → first ≡ atoms sizes + pair_start sizes j i → d ≡ size sizes i
    → Spans sizes i j (both sizes) (record { first = first; step = 1; other = d })
unfolding double
plane-more sizes i j first d l e g x y h k = rw (e, g, both-more sizes i x j y l) (omega arith)

-- Every number of a plane is small.
pub plane-small : (sizes : List ℕ) (i j x y : ℕ) (plane : Plane) → SmallSizes sizes → i ≢ j → Spans sizes i j (both sizes) plane → x < size sizes i → y < size sizes j
    → number_in plane x y < 2 ^ 64
plane-small sizes i j x y plane s d h m k = omega (arith, h x y m k, both_below sizes i x j y d m k, features-small sizes s)

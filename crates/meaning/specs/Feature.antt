-- Features and their numbers, and which features are true in a state.
use Rattle.std.specs.Prelude.{ℕ, zero, suc, ◌+◌, ◌*◌, Bool, ◌||◌, cond, List, [], ◌∷◌, length, take, eqb, ltb}
use Rattle.meaning.specs.Sets.{Set, some, odd, shared}
use Rattle.meaning.specs.Task.{value, size}

unfoldable pub sum_of : List ℕ → ℕ
sum_of [] = 0
sum_of (d ∷ ds) = d + sum_of ds

-- "the sum of d(i)*d(j) over i < j"
unfoldable pub pairs_of : List ℕ → ℕ
pairs_of [] = 0
pairs_of (d ∷ ds) = d * sum_of ds + pairs_of ds

-- "First the single atoms ..; there are A."
unfoldable pub atoms : List ℕ → ℕ
atoms sizes = sum_of sizes

-- "N is A plus the sum of d(i)*d(j) over i < j."
unfoldable pub features : List ℕ → ℕ
features sizes = atoms sizes + pairs_of sizes

-- The number of the atom that gives variable i the value x: "variable 0's values first".
unfoldable pub single : List ℕ → ℕ → ℕ → ℕ
single sizes i x = sum_of (take i sizes) + x

-- How many two-variable features stand before those of the variables i < j: "in the order (0,1), (0,2) and so on".
unfoldable pub pair_start : List ℕ → ℕ → ℕ → ℕ
pair_start [] i j = 0
pair_start (d ∷ ds) i zero = 0
pair_start (d ∷ ds) zero (suc j) = d * sum_of (take j ds)
pair_start (d ∷ ds) (suc i) (suc j) = d * sum_of ds + pair_start ds i j

-- The number of the feature of value x of variable i and value y of variable j, i < j: "each pair of values (x,y), x slower".
unfoldable pub double : List ℕ → ℕ → ℕ → ℕ → ℕ → ℕ
double sizes i x j y = atoms sizes + (pair_start sizes i j + (x * size sizes j + y))

-- The same feature with its two atoms either way round.
unfoldable pub both : List ℕ → ℕ → ℕ → ℕ → ℕ → ℕ
both sizes i x j y = cond (ltb i j) (double sizes i x j y) (double sizes j y i x)

-- Feature f is true where variable i has the value x i: it is one of these atoms, or a pair of two of them.
unfoldable pub true_in : List ℕ → (ℕ → ℕ) → Set
true_in sizes x f =
    some (length sizes) (λ i. eqb f (single sizes i (x i)))
    || some (length sizes) (λ j. some j (λ i. eqb f (double sizes i (x i) j (x j))))

-- "the parity of a state is the number of listed features true in it, modulo 2"
unfoldable pub parity : List ℕ → Set → List ℕ → Bool
parity sizes weights state = odd (shared (features sizes) weights (true_in sizes (value state)))

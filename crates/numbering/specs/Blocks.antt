-- The number of the first pair of two variables, counted by sums: from the last variable to the first one.
use Rattle.std.specs.Prelude.{ℕ, zero, suc, ◌+◌, ◌*◌, ◌-◌, ◌<◌, ◌≤◌, ◌≡◌, List, [], ◌∷◌, take}
use Rattle.std.proofs.Common.{sym, ap, ◌∙◌, arith, mul-add, add-mul}
use Rattle.meaning.specs.Limits.{most_atoms}
use Rattle.meaning.specs.Task.{size}
use Rattle.meaning.specs.Feature.{sum_of, pairs_of, atoms, pair_start}
use Rattle.theory.specs.Numbering.{front-next, pair-room}
use Rattle.numbering.specs.Sizes.{SmallSizes, most_pairs, sum-small, pairs_small}
use Rattle.numbering.specs.Sums.{sum-next, pairs_next}

-- The atoms from variable k on are counted.
abbrev pub From : List ℕ → ℕ → ℕ → Type 0
From sizes k count = sum_of (take k sizes) + count ≡ sum_of sizes

-- Before the pairs of first variable i stand those of the variables before it, among themselves and with the rest.
row-start : (sizes : List ℕ) (i rest : ℕ) → From sizes i rest → pair_start sizes i (suc i) ≡ pairs_of (take i sizes) + sum_of (take i sizes) * rest
unfolding sum_of pairs_of pair_start
row-start [] zero rest e = omega arith
row-start [] (suc i) rest e = omega arith
row-start (d ∷ ds) zero rest e = omega arith
row-start (d ∷ ds) (suc i) rest e =
    let q : sum_of ds ≡ sum_of (take i ds) + rest = omega arith in
    rw (q, mul-add, add-mul) (omega (arith, row-start ds i rest (omega arith)))

-- Then come its own with the variables between it and variable j.
block_start : (sizes : List ℕ) (i j between : ℕ) → i < j → sum_of (take i sizes) + size sizes i + between ≡ sum_of (take j sizes)
    → pair_start sizes i j ≡ pair_start sizes i (suc i) + size sizes i * between
unfolding sum_of pair_start
block_start sizes i zero between l e = absurd (omega arith)
block_start [] i (suc j) between l e = omega arith
block_start (d ∷ ds) zero (suc j) between l e =
    let q : between ≡ sum_of (take j ds) = omega arith in rw q (omega arith)
block_start (d ∷ ds) (suc i) (suc j) between l e = omega (arith, block_start ds i j between (omega arith) (omega arith))

-- Of what stands before the pairs of variables i and j, only the pairs of the variables before k are not counted, among themselves and with the rest.
pub record Counted (sizes : List ℕ) (i j k count pairs : ℕ) : Type 0 where
  pub rest : From sizes k count
  pub start : pairs + (pairs_of (take k sizes) + sum_of (take k sizes) * count) ≡ pair_start sizes i j

-- A turn from variable k to the one before it.
module _ (sizes : List ℕ) (k d count : ℕ) (more : 0 < k) (own : d ≡ size sizes (k - 1)) where
  next : suc (k - 1) ≡ k
  next = omega arith

  front : sum_of (take k sizes) ≡ sum_of (take (k - 1) sizes) + d
  front = rw own (ap (λ n. sum_of (take n sizes)) (sym next) ∙ sum-next sizes (k - 1))

  pairs-front : pairs_of (take k sizes) ≡ pairs_of (take (k - 1) sizes) + sum_of (take (k - 1) sizes) * d
  pairs-front = rw own (ap (λ n. pairs_of (take n sizes)) (sym next) ∙ pairs_next sizes (k - 1))

  pub from-turn : From sizes k count → From sizes (k - 1) (count + d)
  from-turn e = omega (arith, front)

  pub counted-turn : (i j pairs : ℕ) → Counted sizes i j k count pairs → Counted sizes i j (k - 1) (count + d) (pairs + d * count)
  counted-turn i j pairs c = record {
    rest = from-turn c.rest;
    start = rw mul-add (omega (arith, c.start, pairs-front, ap (λ n. n * count) front, add-mul (sum_of (take (k - 1) sizes)) d count));
  }

module _ (sizes : List ℕ) (i j : ℕ) (ordered : i < j) where
  -- At first the pairs of variable i itself are counted.
  pub counted-first : (d first second : ℕ) → d ≡ size sizes i → From sizes i first → From sizes j second
      → (d + second ≤ first) × Counted sizes i j i first (d * (first - (d + second)))
  counted-first d first second own e f = rw own (room, record { rest = e; start = omega (arith, block_start sizes i j _ ordered between, row-start sizes i first e) })
    where
      room : size sizes i + second ≤ first
      room = omega (arith, front-next sizes i j ordered)

      between : sum_of (take i sizes) + size sizes i + (first - (size sizes i + second)) ≡ sum_of (take j sizes)
      between = omega (arith, room)

  pub counted-small : (k count pairs : ℕ) → SmallSizes sizes → Counted sizes i j k count pairs → (count ≤ most_atoms) × (pairs ≤ most_pairs)
  counted-small k count pairs small c = (omega (arith, c.rest, sum-small sizes small), omega (arith, c.start, pair-room sizes i j ordered, pairs_small sizes small))

-- At last all is counted.
pub counted-last : (sizes : List ℕ) (i j count pairs : ℕ) → Counted sizes i j 0 count pairs → count + pairs ≡ atoms sizes + pair_start sizes i j
unfolding atoms sum_of pairs_of
counted-last sizes i j count pairs c = omega (arith, c.rest, c.start)

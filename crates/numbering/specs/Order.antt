-- The blocks of features one after another: where each stands, which follows, which holds a feature, and which atoms that feature joins.
use Prim.Native.Nat.{ℕ, suc, ◌+◌, ◌*◌, ◌-◌, ◌/◌, ◌%◌, ◌<◌, ◌≤◌}
use Rattle.std.specs.Prelude.{◌≡◌, refl, List}
use Rattle.std.proofs.Common.{sym, ◌∙◌, arith, div-lt_iff_lt-mul, mod-lt}
use Rattle.std.proofs.Math.Path.{ap}
use Rattle.std.proofs.Math.Nat.{div-add-mod'}
use Rattle.std.proofs.Math.ListN.{length}
use Rattle.meaning.specs.Limits.{most_variables, most_atoms}
use Rattle.meaning.specs.Task.{size}
use Rattle.meaning.specs.Feature.{pairs_of, atoms, features, pair_start, double}
use Rattle.theory.specs.Truth.{less, same, more, order}
use Rattle.theory.specs.Numbering.{pair-room}
use Rattle.theory.specs.NumberOrder.{pair-first, pair_step, pair_turn, pair-last}
use Rattle.numbering.specs.declared.Block.{Block}
use Rattle.numbering.specs.Sizes.{SmallSizes, most_pairs, features-small}

-- ---- what the routines say

-- A block stands where the numbering has it.
pub record Stands (sizes : List ℕ) (block : Block) : Type 0 where
  pub ordered : block.first ≤ block.second
  pub place : block.second < length sizes
  pub empty : block.first ≡ block.second → block.start ≡ block.end
  pub begins : block.first < block.second → block.start ≡ atoms sizes + pair_start sizes block.first block.second
  pub ends : block.end ≡ atoms sizes + pair_start sizes block.first (suc block.second)

-- A number that gets smaller from block to block.
abbrev pub blocks_left : List ℕ → Block → ℕ
blocks_left sizes block = suc most_variables * (length sizes - block.first) + (length sizes - block.second)

-- A block begins where another ends, and fewer are left.
pub record Follows (sizes : List ℕ) (block next : Block) : Type 0 where
  pub stands : Stands sizes next
  pub begins : next.start ≡ block.end
  pub fewer : blocks_left sizes next < blocks_left sizes block

-- A block holds feature f.
pub record Contains (sizes : List ℕ) (block : Block) (f : ℕ) : Type 0 where
  pub stands : Stands sizes block
  pub from : block.start ≤ f
  pub below : f < block.end

-- Feature f joins value x of variable i with value y of variable j.
pub record Joins (sizes : List ℕ) (f i x j y : ℕ) : Type 0 where
  pub ordered : i < j
  pub place : j < length sizes
  pub first : x < size sizes i
  pub second : y < size sizes j
  pub number : f ≡ double sizes i x j y

-- ---- from block to block

pub first-stands : (sizes : List ℕ) (all : ℕ) → 0 < length sizes → all ≡ atoms sizes → Stands sizes (record { first = 0; second = 0; start = all; end = all })
first-stands sizes all l e = record {
  ordered = omega arith;
  place = l;
  empty = λ q. refl;
  begins = λ k. absurd (omega arith);
  ends = omega (arith, e, pair-first sizes);
}

module _ (sizes : List ℕ) (block : Block) (small : SmallSizes sizes) (stands : Stands sizes block) where
  -- The next second variable.
  module _ (second d d' : ℕ) (next : second ≡ suc block.second) (more : second < length sizes) (own : d ≡ size sizes block.first) (other : d' ≡ size sizes second) where
    step : block.end + d * d' ≡ atoms sizes + pair_start sizes block.first (suc second)
    step = rw (own, other) (omega (arith, stands.ends, ap (pair_start sizes block.first) next, pair_step sizes block.first second (omega (arith, stands.ordered))))

    pub along-small : block.end + d * d' ≤ most_atoms + most_pairs
    unfolding features
    along-small = omega (arith, step, pair-front, features-small sizes small)
      where
        pair-front : pair_start sizes block.first (suc second) ≤ pairs_of sizes
        pair-front = omega (arith, pair-room sizes block.first (suc second) (omega (arith, stands.ordered)))

    pub along-follows : Follows sizes block (record { first = block.first; second = second; start = block.end; end = block.end + d * d' })
    along-follows = record {
      stands = record {
        ordered = omega (arith, stands.ordered);
        place = more;
        empty = λ q. absurd (omega (arith, stands.ordered));
        begins = λ k. stands.ends ∙ ap (λ j. atoms sizes + pair_start sizes block.first j) (sym next);
        ends = step;
      };
      begins = refl;
      fewer = omega (arith, stands.place);
    }

  -- The next first variable.
  pub down-follows : (first : ℕ) → first ≡ suc block.first → length sizes ≤ suc block.second → block.end < features sizes
      → Follows sizes block (record { first = first; second = first; start = block.end; end = block.end })
  unfolding features
  down-follows first next last below = record {
    stands = record { ordered = omega arith; place = place; empty = λ q. refl; begins = λ k. absurd (omega arith); ends = rw next (omega (arith, turned)) };
    begins = refl;
    fewer = omega (arith, stands.ordered, stands.place, small.few, place);
  }
    where
      turned : block.end ≡ atoms sizes + pair_start sizes (suc block.first) (suc (suc block.first))
      turned = let e : suc block.second ≡ length sizes = omega (arith, stands.place) in
          omega (arith, stands.ends, ap (pair_start sizes block.first) e, pair_turn sizes block.first)

      place : first < length sizes
      place = elim (order first (length sizes)) [
        | less l ↦ l
        | same q ↦ let e : suc block.first ≡ length sizes = omega (arith, q) in
            absurd (omega (arith, below, turned, ap (λ i. pair_start sizes i (suc i)) e, pair-last sizes))
        | more l ↦ absurd (omega (arith, stands.ordered, stands.place))
      ]

-- ---- the atoms of a feature

module _ (sizes : List ℕ) (block : Block) (f d : ℕ) (holds : Contains sizes block f) (own : d ≡ size sizes block.second) where
  apart : block.first < block.second
  apart = elim (order block.first block.second) [
    | less l ↦ l
    | same q ↦ absurd (omega (arith, holds.from, holds.below, holds.stands.empty q))
    | more l ↦ absurd (omega (arith, holds.stands.ordered))
  ]

  within : f - block.start < size sizes block.first * d
  within = rw own (omega (arith, holds.from, holds.below, holds.stands.begins apart, holds.stands.ends, pair_step sizes block.first block.second apart))

  pub value_room : 0 < d
  value_room = elim (order 0 d) [ less l ↦ l | same q ↦ absurd (let z : f - block.start < size sizes block.first * 0 = rw (← q) at within in omega arith) | more l ↦ absurd (omega arith) ]

  pub values_join : Joins sizes f block.first ((f - block.start) / d) block.second ((f - block.start) % d)
  unfolding double
  values_join = record {
    ordered = apart;
    place = holds.stands.place;
    first = (div-lt_iff_lt-mul value_room).1 within;
    second = rw (← own) (mod-lt (f - block.start) (omega (arith, value_room)));
    number = rw (← own) (omega (arith, holds.from, holds.stands.begins apart, div-add-mod' (f - block.start) d));
  }

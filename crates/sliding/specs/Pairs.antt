-- The pairs in the turns in which they are marked: those of a label, of two slots, and all.
use Rattle.std.specs.Prelude.{ℕ, ◌*◌, ◌<◌, ◌≤◌, ◌≡◌, ◌≢◌, List, length}
use Rattle.std.proofs.Math.Path.{refl, sym, ap}
use Rattle.std.proofs.Common.{◌∙◌, arith, ne_of_lt, lt-ltb, le-ltb, eq-eqb, ne_eqb}
use Rattle.meaning.specs.Sets.{flat}
use Rattle.meaning.specs.Limits.{word_bits}
use Rattle.meaning.specs.Task.{size}
use Rattle.meaning.specs.Feature.{features, double, both}
use Rattle.meaning.specs.Bay.{occurrences, once_in, bay_pairs}
use Rattle.theory.specs.Numbering.{both-less, both_below}
use Rattle.theory.specs.BayMoves.{bay-size}
use Rattle.numbering.specs.Sizes.{SmallSizes}
use Rattle.words.specs.Change.{toggled}
use Rattle.words.specs.Toggled.{toggled_all, toggled-none, toggled-one}
use Rattle.sliding.specs.Parts.{Uniform, label_pair, label_pairs, slot_pairs}

-- ---- a label in the slots i < j

module _ (sizes : List ℕ) (u : Uniform sizes) where
  -- The size of each slot is their number.
  uniform-size : (i : ℕ) → i < length sizes → size sizes i ≡ length sizes
  uniform-size i h = ap (λ l. size l i) u.0 ∙ bay-size (length sizes) i h

  module _ (i j label : ℕ) (ordered : i < j) (place : j < length sizes) (is-label : label < length sizes) where
    -- Its feature has a number,
    pub label-numbered : SmallSizes sizes × (i ≢ j) × (i < length sizes) × (j < length sizes) × (label < size sizes i) × (label < size sizes j)
    label-numbered =
        let first : i < length sizes = omega arith in (
          record { few = omega (arith, u.1); small = λ k h. omega (arith, u.1, uniform-size k h) },
          ne_of_lt ordered,
          first,
          place,
          rw (uniform-size i first) is-label,
          rw (uniform-size j place) is-label,
        )

    -- and a place in words that have one for each feature;
    pub label-place : (words : List ℕ) → features sizes ≤ word_bits * length words → both sizes i label j label < word_bits * length words
    label-place words room = let known = label-numbered in omega (arith, both_below sizes i label j label known.1 known.4 known.5)

    -- it is marked if the label occurs once.
    pub label-marked : (start words next : List ℕ) (feature : ℕ) → occurrences label start ≡ 1 → feature ≡ both sizes i label j label → next ≡ toggled words feature
        → next ≡ toggled_all words (label_pair (length sizes) start i j label)
    unfolding label_pair
    label-marked start words next feature once number e =
        rw (eq-eqb (occurrences label start) 1 once)
        (e ∙ ap (toggled words) (number ∙ both-less sizes i label j label ordered ∙ ap (λ l. double l i label j label) u.0) ∙ sym (toggled-one words _))

-- It is passed over if not.
pub label-passed : (n : ℕ) (start : List ℕ) (i j label : ℕ) (words : List ℕ) → occurrences label start ≢ 1 → words ≡ toggled_all words (label_pair n start i j label)
unfolding label_pair
label-passed n start i j label words d = rw (ne_eqb (occurrences label start) 1 d) (sym (toggled-none words))

-- ---- all labels, all slots

module _ (n : ℕ) (start : List ℕ) (i j : ℕ) where
  pub label-pairs : i < j → label_pairs n start i j ≡ flat n (label_pair n start i j)
  unfolding label_pairs
  label-pairs h = rw (lt-ltb i j h) refl

  pub labels-passed : (words : List ℕ) → j ≤ i → words ≡ toggled_all words (label_pairs n start i j)
  unfolding label_pairs
  labels-passed words h = rw (le-ltb i j h) (sym (toggled-none words))

pub bay-pairs : (n : ℕ) (start : List ℕ) → bay_pairs n (once_in start) ≡ flat n (slot_pairs n start)
unfolding bay_pairs slot_pairs label_pairs label_pair
bay-pairs n start = refl

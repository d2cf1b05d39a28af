-- The listed pairs of a partial file under their new numbers, in the turns in which they are found.
use Rattle.std.specs.Prelude.{ℕ, ◌*◌, ◌<◌, ◌≤◌, ◌≡◌, ◌≢◌, Bool, cond, List, [], ◌∷◌, ltb, length, replicate}
use Rattle.std.proofs.Math.Path.{refl}
use Rattle.std.proofs.Common.{sym, ap, ◌∙◌, arith, ne_of_lt, lt-ltb, le-ltb}
use Rattle.meaning.specs.Sets.{Set, flat, listed}
use Rattle.meaning.specs.Limits.{word_bits, most_features}
use Rattle.meaning.specs.Task.{size}
use Rattle.meaning.specs.Feature.{atoms, features, double, both}
use Rattle.meaning.specs.File.{InLimits}
use Rattle.meaning.specs.Workspace.{has, packed, words_for}
use Rattle.meaning.specs.Partial.{built_sizes, each_pair, built_pairs}
use Rattle.theory.specs.Flat.{flat-cong}
use Rattle.theory.specs.Numbering.{both_below, both-less}
use Rattle.theory.specs.PartialPairs.{built-length, built-size, built-run}
use Rattle.theory.specs.PartialParts.{features-built}
use Rattle.numbering.specs.declared.Plane.{Plane}
use Rattle.numbering.specs.Sizes.{SmallSizes}
use Rattle.numbering.specs.Planes.{number_in, Spans}
use Rattle.words.specs.Toggled.{toggled_all, toggled-none, run-packed, length-all}

-- ---- the pairs in turns

-- A number, if it is wanted.
abbrev pub number_if : Bool → ℕ → List ℕ
number_if wanted f = cond wanted (f ∷ []) []

-- Those of one value of a variable with the values of another, by where the features of the two stand in the old and in the new numbers.
unfoldable pub line_pairs : Set → Plane → Plane → ℕ → ℕ → List ℕ
line_pairs old from to x end = flat end (λ y. number_if (old (number_in from x y)) (number_in to x y))

module _ (sizes : List ℕ) (old : Set) where
  unfoldable pub block_pairs : ℕ → ℕ → List ℕ
  block_pairs i j = cond (ltb i j) (flat (size sizes i) (λ x. flat (size sizes j) (λ y. number_if (old (double sizes i x j y)) (double (built_sizes sizes) i x j y)))) []

  unfoldable pub row_pairs : ℕ → List ℕ
  row_pairs i = flat (length sizes) (block_pairs i)

  pub all-pairs : flat (length sizes) row_pairs ≡ built_pairs sizes old
  unfolding row_pairs block_pairs built_pairs each_pair
  all-pairs = refl

-- ---- what the routines ask

-- A small number that is within some words.
abbrev pub Inside : List ℕ → ℕ → Type 0
Inside words f = (f < word_bits * length words) × (f < most_features)

-- The numbers of a line are within the old words and within the new ones.
abbrev pub LineRoom : List ℕ → List ℕ → Plane → Plane → ℕ → ℕ → Type 0
LineRoom old new from to x end = (y : ℕ) → y < end → Inside old (number_in from x y) × Inside new (number_in to x y)

-- Sizes with one value more are within every limit, and there is room for the old numbers and for the new ones.
pub record Renumbers (sizes old wider new : List ℕ) : Type 0 where
  pub built : wider ≡ built_sizes sizes
  pub limits : InLimits (built_sizes sizes)
  pub old-room : features sizes ≤ word_bits * length old
  pub new-room : features (built_sizes sizes) ≤ word_bits * length new

pub renumbers-next : (sizes old wider new next l : List ℕ) → Renumbers sizes old wider new → next ≡ toggled_all new l → Renumbers sizes old wider next
renumbers-next sizes old wider new next l r e = record { built = r.built; limits = r.limits; old-room = r.old-room; new-room = rw (ap length e ∙ length-all new l) r.new-room }

pub small-old : (sizes : List ℕ) → InLimits (built_sizes sizes) → SmallSizes sizes
small-old sizes h = record {
  few = rw (built-length sizes) at h.variables.1;
  small = λ i l. let e = rw (built-size sizes i l) at (h.each i (rw (built-length sizes) l)).1 in omega arith;
}

module _ {sizes old wider new : List ℕ} (r : Renumbers sizes old wider new) (i j : ℕ) (l : i < j) (k : j < length sizes) where
  -- What is asked to find where the features of two variables stood before.
  pub old-asks : SmallSizes sizes × (i ≢ j) × (i < length sizes) × (j < length sizes)
  old-asks = (small-old sizes r.limits, ne_of_lt l, omega arith, k)

  module _ (from to : Plane) (spans : Spans sizes i j (both sizes) from) (spanned : Spans wider i j (both wider) to) where
    -- An old value is one of the built task too.
    wide : (u x : ℕ) → u < length sizes → x < size sizes u → x < size wider u
    wide u x m h = rw (r.built, built-size sizes u m) (omega arith)

    pub line-room : (x : ℕ) → x < size sizes i → LineRoom old new from to x (size sizes j)
    line-room x h y t =
        let before = both_below sizes i x j y (ne_of_lt l) h t in
        let after = rw r.built at (both_below wider i x j y (ne_of_lt l) (wide i x (omega arith) h) (wide j y k t)) in
        let first = spans x y h t in
        let second = spanned x y (wide i x (omega arith) h) (wide j y k t) ∙ ap (λ s. both s i x j y) r.built in
        (rw first (omega (arith, r.old-room), omega (arith, features-built sizes, r.limits.total)), rw second (omega (arith, r.new-room), omega (arith, r.limits.total)))

    line-pairs : (x : ℕ) → x < size sizes i → line_pairs (has old) from to x (size sizes j) ≡ flat (size sizes j) (λ y. number_if (has old (double sizes i x j y)) (double (built_sizes sizes) i x j y))
    unfolding line_pairs
    line-pairs x h = flat-cong (size sizes j) _ _ (λ y t. rw (
      spans x y h t,
      spanned x y (wide i x (omega arith) h) (wide j y k t),
      r.built,
      both-less sizes i x j y l,
      both-less (built_sizes sizes) i x j y l,
    ) refl)

    -- All lines of two variables.
    pub block-lines : (lines end : ℕ) → lines ≡ size sizes i → end ≡ size sizes j → flat lines (λ x. line_pairs (has old) from to x end) ≡ block_pairs sizes (has old) i j
    unfolding block_pairs
    block-lines lines end e q = rw (lt-ltb i j l, e) (flat-cong (size sizes i) _ _ (λ x h. rw q (line-pairs x h)))

pub block_none : (sizes new : List ℕ) (old : Set) (i j : ℕ) → j ≤ i → new ≡ toggled_all new (block_pairs sizes old i j)
unfolding block_pairs
block_none sizes new old i j h = rw (le-ltb i j h) (sym (toggled-none new))

-- Words that hold none yet hold them all in the end.
pub renumbered-packed : (sizes old next : List ℕ) → next ≡ toggled_all (replicate (words_for (features (built_sizes sizes))) 0) (flat (length sizes) (row_pairs sizes (has old)))
    → next ≡ packed (features (built_sizes sizes)) (listed (built_pairs sizes (has old)))
renumbered-packed sizes old next e = e ∙ rw (all-pairs sizes (has old)) (run-packed (atoms (built_sizes sizes)) (features (built_sizes sizes)) (built_pairs sizes (has old)) (built-run sizes (has old)))

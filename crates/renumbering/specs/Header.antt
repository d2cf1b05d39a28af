-- The header of the built task, by the words of a partial file's front.
use Rattle.std.specs.Prelude.{ℕ, ◌+◌, ◌-◌, ◌≤◌, ◌≡◌, List, [], ◌∷◌, ◌++◌, take, drop}
use Rattle.std.proofs.Math.Path.{refl, sym, ap}
use Rattle.std.proofs.Common.{◌∙◌, append_assoc, arith, drop_at, drop-drop}
use Rattle.std.proofs.Math.Nat.{add-sub_cancel_left}
use Rattle.std.proofs.Math.ListN.{length, replicate, length-append}
use Rattle.meaning.specs.Sets.{listed}
use Rattle.meaning.specs.Limits.{most_features}
use Rattle.meaning.specs.Feature.{features}
use Rattle.meaning.specs.File.{InLimits}
use Rattle.meaning.specs.Workspace.{words_for, sizes_at, start_at, goal_at, pairs_at, slots_at, has, packed}
use Rattle.meaning.specs.Partial.{built_sizes, built_pairs}
use Rattle.theory.specs.Flat.{take-replicate}
use Rattle.theory.specs.Words.{length-packed}
use Rattle.theory.specs.PartialPairs.{built-length}
use Rattle.numbering.specs.Sizes.{SmallSizes}
use Rattle.layout.specs.declared.Places.{Places}
use Rattle.layout.specs.Places.{places_of}
use Rattle.layout.specs.Parts.{sizes_part, start_part, goal_part, pairs_part, Headed, length_part, lent-pairs}
use Rattle.reader.specs.Answer.{written, begun, feature_words}
use Rattle.reader.specs.After.{begun_more}
use Rattle.reader.specs.Pairs.{zeros-left}
use Rattle.renumbering.specs.Pairs.{Renumbers, small-old}

-- The words of a front by its own sizes, which are small enough to have one value more each.
pub record Own (v n : ℕ) (words : List ℕ) : Type 0 where
  pub headed : Headed v n words
  pub total : n ≡ features (sizes_part v words)
  pub limits : InLimits (built_sizes (sizes_part v words))

-- How many features the built task has.
unfoldable pub built_total : ℕ → List ℕ → ℕ
built_total v words = features (built_sizes (sizes_part v words))

-- Sizes with their count, and start and goal of other words.
unfoldable pub states_by : ℕ → List ℕ → List ℕ → List ℕ
states_by v sizes words = v ∷ (sizes ++ (start_part v words ++ goal_part v words))

-- "Listed pairs keep their atoms but get new feature numbers."
unfoldable pub pairs_by : ℕ → ℕ → List ℕ → List ℕ
pairs_by v n words = feature_words (built_total v words) (built_pairs (sizes_part v words) (has (pairs_part v n words)))

-- "each variable gets one extra value"; start and goal stay as they are.
unfoldable pub built_words : ℕ → ℕ → List ℕ → List ℕ
built_words v n words = states_by v (built_sizes (sizes_part v words)) words ++ pairs_by v n words

-- ---- words that are put

-- Values put over a part of words.
pub put-made : (words part values : List ℕ) (at : ℕ) → part ≡ values → take at words ++ (part ++ drop (at + length values - at) (drop at words)) ≡ written words at values
put-made words part values at e = rw (e, add-sub_cancel_left at (length values), drop-drop (length values) at words) refl

module _ (v n : ℕ) (own : List ℕ) (headed : Headed v n own) where
  start-long : length (start_part v own) ≡ v
  start-long = length_part (start_at v) v own (omega (arith, headed.words))

  goal-long : length (goal_part v own) ≡ v
  goal-long = length_part (goal_at v) v own (omega (arith, headed.words))

  module _ (sizes : List ℕ) (long : length sizes ≡ v) where
    states-long : length (states_by v sizes own) ≡ pairs_at v
    unfolding states_by
    states-long = omega (arith, length-append sizes (start_part v own ++ goal_part v own), length-append (start_part v own) (goal_part v own), start-long, goal-long)

    -- Count, sizes, start and goal, one behind the other.
    pub states-put : (words first second third fourth start goal : List ℕ) (at to : ℕ) → first ≡ written words 0 (v ∷ []) → second ≡ written first sizes_at sizes
        → start ≡ start_part v own → at ≡ start_at v → third ≡ written second at start → goal ≡ goal_part v own → to ≡ goal_at v → fourth ≡ written third to goal
        → fourth ≡ begun words (states_by v sizes own)
    unfolding states_by
    states-put words first second third fourth start goal at to e f s p g t q h =
        let one : first ≡ begun words (v ∷ []) = e in
        let two : second ≡ begun words (v ∷ sizes) = f ∙ rw one (begun_more words (v ∷ []) sizes sizes_at refl) in
        let three : third ≡ begun words ((v ∷ sizes) ++ start_part v own) = g ∙ rw (two, s, p) (begun_more words (v ∷ sizes) (start_part v own) (start_at v) (omega arith)) in
        h ∙ rw (three, t, q) (begun_more words ((v ∷ sizes) ++ start_part v own) (goal_part v own) (goal_at v) (omega (arith, length-append sizes (start_part v own), start-long))
        ∙ ap (begun words) (append_assoc (v ∷ sizes) (start_part v own) (goal_part v own)))

    -- Behind them words that were all 0 still are.
    pub states-clear : (words left : List ℕ) (total : ℕ) → words ≡ replicate (length words) 0 → slots_at v total ≤ length words → left ≡ begun words (states_by v sizes own)
        → pairs_part v total left ≡ replicate (words_for total) 0
    states-clear words left total none room e = rw (e, drop_at (states_by v sizes own) (drop (length (states_by v sizes own)) words) (pairs_at v) states-long) (
        rw none (rw (zeros-left (length (states_by v sizes own)) (length words)) (take-replicate (words_for total) (length words - length (states_by v sizes own)) 0 (omega (arith, states-long)))))

    -- The pairs stand behind them.
    pub pairs-behind : (words left last pairs : List ℕ) → left ≡ begun words (states_by v sizes own) → last ≡ written left (pairs_at v) pairs → last ≡ begun words (states_by v sizes own ++ pairs)
    pairs-behind words left last pairs e q = q ∙ rw e (begun_more words (states_by v sizes own) pairs (pairs_at v) states-long)

module _ (v n : ℕ) (words : List ℕ) (own : Own v n words) where
  pub own-small : (sizes : List ℕ) → sizes ≡ sizes_part v words → SmallSizes sizes
  own-small sizes e = rw e (small-old (sizes_part v words) own.limits)

  pub own-long : length (sizes_part v words) ≡ v
  own-long = length_part sizes_at v words (omega (arith, own.headed.words))

  pub wider-long : (wider : List ℕ) → wider ≡ built_sizes (sizes_part v words) → length wider ≡ v
  wider-long wider e = ap length e ∙ built-length (sizes_part v words) ∙ own-long

  -- N of the built task is within its limit.
  pub total-most : built_total v words ≤ most_features
  unfolding built_total
  total-most = own.limits.total

  module _ (total : ℕ) (is : total ≡ built_total v words) (at : Places) (places : at ≡ places_of v total) (sizes pairs : List ℕ) (sizes-are : sizes ≡ sizes_part v words)
      (pairs-are : pairs ≡ pairs_part v n words) (header : List ℕ) where
    -- The part of the header that takes the pairs.
    abbrev part : List ℕ
    part = take (at.slots - at.pairs) (drop at.pairs header)

    pub own-renumbers : (wider : List ℕ) → wider ≡ built_sizes (sizes_part v words) → slots_at v total ≤ length header → pairs_part v total header ≡ replicate (words_for total) 0
        → Renumbers sizes pairs wider part × (part ≡ replicate (words_for (features (built_sizes sizes))) 0)
    unfolding built_total
    own-renumbers wider e room none =
        let lent = lent-pairs v total at places header in
        let long : length part ≡ words_for total = ap length lent ∙ length_part (pairs_at v) (words_for total) header room in
        let old : length pairs ≡ words_for n = ap length pairs-are ∙ length_part (pairs_at v) (words_for n) words own.headed.words in
        let new : features (built_sizes sizes) ≡ total = ap (λ l. features (built_sizes l)) sizes-are ∙ sym is in (
          record {
            built = e ∙ ap built_sizes (sym sizes-are);
            limits = rw sizes-are own.limits;
            old-room = omega (arith, own.total, ap features sizes-are);
            new-room = omega arith;
          },
          lent ∙ none ∙ ap (λ k. replicate (words_for k) 0) (sym new),
        )

    pub pairs-put : (next : List ℕ) → next ≡ packed (features (built_sizes sizes)) (listed (built_pairs sizes (has pairs)))
        → take at.pairs header ++ (next ++ drop (at.slots - at.pairs) (drop at.pairs header)) ≡ written header (pairs_at v) (pairs_by v n words)
    unfolding built_total pairs_by
    pairs-put next e =
        let made : next ≡ pairs_by v n words = e ∙ rw (sizes-are, pairs-are) refl in
        let long : words_for total ≡ length (pairs_by v n words) = ap words_for is ∙ sym (length-packed (built_total v words) _) in
        rw (places, long) (put-made header next (pairs_by v n words) (pairs_at v) made)

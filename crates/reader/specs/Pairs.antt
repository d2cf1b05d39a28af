-- The pairs as the code reads them, into the words behind sizes, start and goal; and then the whole front.
use Rattle.std.specs.Prelude.{ℕ, zero, suc, ◌+◌, ◌-◌, ◌≤◌, ◌≡◌, Result, Ok, Err, length, get_or, take, drop, replicate}
use Rattle.std.proofs.Math.Path.{refl, ap}
use Rattle.std.proofs.Common.{sym, subst, ◌∙◌, arith, drop_at, drop-drop}
use mathlib.Core.List.{List, ◌++◌}
use Rattle.std.proofs.Math.Nat.{sub-zero, add-sub_cancel_left}
use Rattle.meaning.specs.Limits.{most_variables, most_features}
use Rattle.meaning.specs.Feature.{atoms, features}
use Rattle.meaning.specs.Number.{Read, got, on_read, number}
use Rattle.meaning.specs.File.{Parser, give, then, Kind, feature_list, InLimits}
use Rattle.meaning.specs.Workspace.{pairs_at, slots_at, words_for}
use Rattle.theory.specs.Numbering.{atoms-room}
use Rattle.theory.specs.Words.{length-packed}
use Rattle.theory.specs.Contents.{sizes_in}
use Rattle.theory.specs.Flat.{take-replicate}
use Rattle.layout.specs.declared.Places.{Places}
use Rattle.layout.specs.Places.{places_of}
use Rattle.layout.specs.Parts.{sizes_part, pairs_part, Headed, sizes-first, lent-pairs}
use Rattle.number.specs.Answers.{declared-reason, faulted}
use Rattle.number.specs.declared.Fault.{Fault}
use Rattle.numbering.specs.Sizes.{SmallSizes, limits-small}
use Rattle.reader.specs.declared.Header.{Header}
use Rattle.reader.specs.Answer.{written, begun, feature_words, ReadsInto, reads-next, reads-fault, reads-put, unread}
use Rattle.reader.specs.After.{begun_more}
use Rattle.reader.specs.Front.{States, state_words, Front, behind_states, front_words, HeaderInto}
use Rattle.reader.specs.States.{AfterStates}

-- Words that begin with sizes within the limits, have n features, and have none yet among the words of the pairs.
pub record Cleared (words : List ℕ) (n : ℕ) : Type 0 where
  pub limits : InLimits (sizes_in words)
  pub total : n ≡ features (sizes_in words)
  pub headed : Headed (get_or words 0 0) n words
  pub none : pairs_part (get_or words 0 0) n words ≡ replicate (words_for n) 0

module _ (words : List ℕ) (n : ℕ) (clear : Cleared words n) where
  pub part_small : (part : List ℕ) → part ≡ sizes_part (get_or words 0 0) words → SmallSizes part
  part_small part e = subst SmallSizes (sym (e ∙ sizes-first words)) (limits-small (sizes_in words) clear.limits)

  module _ (low : ℕ) (first : low ≡ atoms (sizes_in words)) where
    pub pairs-room : low ≤ n
    pairs-room = rw (first, clear.total) (atoms-room (sizes_in words))

    -- The part with the pairs is put back.
    pub pairs-put : (kind : Kind) (at : Places) → at ≡ places_of (get_or words 0 0) n → (bytes : List ℕ) (place : ℕ) (answer : Result ℕ Fault) (left : List ℕ)
        → ReadsInto (feature_list kind low n bytes place) (feature_words n) answer left
        → ReadsInto (feature_list kind (atoms (sizes_in words)) n bytes place) (λ pairs. written words (pairs_at (get_or words 0 0)) (feature_words n pairs)) answer
        (take at.pairs words ++ (left ++ drop (at.slots - at.pairs) (drop at.pairs words)))
    pairs-put kind at is bytes place answer left read =
        let from = pairs_at (get_or words 0 0) in
        rw is (
        reads-put (feature_list kind (atoms (sizes_in words)) n bytes place) (feature_words n) (λ pairs. written words from (feature_words n pairs))
        (λ part. take from words ++ (part ++ drop (from + words_for n - from) (drop from words))) answer left
        (λ pairs next e. ap (λ l. take from words ++ (feature_words n pairs ++ l)) (rest from (feature_words n pairs) (length-packed n _)))
        (rw first at read))
      where
        rest : (from : ℕ) (values : List ℕ) → length values ≡ words_for n → drop (from + words_for n - from) (drop from words) ≡ drop (from + length values) words
        rest from values e = rw (add-sub_cancel_left from (words_for n), drop-drop (words_for n) from words, e)

  pub pairs-none : (at : Places) → at ≡ places_of (get_or words 0 0) n → take (at.slots - at.pairs) (drop at.pairs words) ≡ replicate (words_for n) 0
  pairs-none at is = lent-pairs (get_or words 0 0) n at is words ∙ clear.none

-- ---- the whole front

pub zeros-left : (k m : ℕ) → drop k (replicate {A = ℕ} m 0) ≡ replicate (m - k) 0
zeros-left zero m = rw (sub-zero m)
zeros-left (suc k) zero = let q : zero - suc k ≡ 0 = omega arith in rw q
zeros-left (suc k) (suc m) = let q : suc m - suc k ≡ m - k = omega arith in rw q (zeros-left k m)

-- Words that begin with those of states; the others are as they were.
pub record Holds (states : States) (old words : List ℕ) : Type 0 where
  pub are : words ≡ begun old (state_words states)
  pub count : get_or words 0 0 ≡ length states.sizes
  pub same : sizes_in words ≡ states.sizes
  pub ends : length (state_words states) ≡ pairs_at (length states.sizes)

-- The counts, with the place after them.
abbrev counted : ℕ → ℕ → ℕ → ℕ → Header
counted v n operators next = record { variables = v; features = n; operators = operators; next = next }

-- What is read behind the states that the words hold, whichever they are.
pub record BehindInto (kind : Kind) (bytes : List ℕ) (at : ℕ) (words : List ℕ) (answer : Result Header Fault) (left : List ℕ) : Type 0 where
  pub into : (states : States) (old : List ℕ) → Holds states old words → HeaderInto (behind_states kind states bytes at) old answer left

header-fault : (read : Read Front) (words : List ℕ) (f : Fault) (left : List ℕ) → read ≡ faulted f → HeaderInto read words (Err f) left
unfolding HeaderInto
header-fault read words f left e = rw e (ap (λ r. Err (record { 0 = r; 1 = f.1 })) (sym (declared-reason f.0)))

module _ (kind : Kind) (bytes : List ℕ) (at : ℕ) (words : List ℕ) (n : ℕ) (total : n ≡ features (sizes_in words)) where
  -- What the pairs are read as, and the words with them.
  abbrev pairs_read : Read (List ℕ)
  pairs_read = feature_list kind (atoms (sizes_in words)) n bytes at

  abbrev with_pairs : List ℕ → List ℕ
  with_pairs pairs = written words (pairs_at (get_or words 0 0)) (feature_words n pairs)

  -- What is left to be read.
  behind-rest : (states : States) → sizes_in words ≡ states.sizes
      → behind_states kind states bytes at ≡ on_read pairs_read (λ pairs next. then number (λ count. give (record { states = states; pairs = pairs; count = count })) bytes next)
  unfolding behind_states
  behind-rest states same = rw (total, same) refl

  module _ (left : List ℕ) where
    pub pairs-unread : (f : Fault) → ReadsInto pairs_read with_pairs (Err f) left → BehindInto kind bytes at words (Err f) left
    pairs-unread f read = record { into = λ states old holds. header-fault _ old f left (behind-rest states holds.same ∙ rw (reads-fault pairs_read with_pairs (Err f) f left read refl)) }

    module _ (next : ℕ) (read : ReadsInto pairs_read with_pairs (Ok next) left) where
      pairs-read : (pairs : List ℕ) × (pairs_read ≡ got pairs next) × (left ≡ with_pairs pairs)
      pairs-read = reads-next pairs_read with_pairs (Ok next) next left read refl

      pub count-unread : (f : Fault) → number bytes next ≡ faulted f → BehindInto kind bytes at words (Err f) left
      count-unread f g = record { into = λ states old holds. header-fault _ old f left (behind-rest states holds.same ∙ rw (pairs-read.1, g)) }

      pub header-got : (v operators last : ℕ) → v ≡ get_or words 0 0 → number bytes next ≡ got operators last → BehindInto kind bytes at words (Ok (counted v n operators last)) left
      unfolding front_words HeaderInto
      header-got v operators last same f = record { into = λ states old holds. made states old holds pairs-read.0 pairs-read.1 pairs-read.2 }
        where
          made : (states : States) (old : List ℕ) → Holds states old words → (pairs : List ℕ) → pairs_read ≡ got pairs next → left ≡ with_pairs pairs
              → HeaderInto (behind_states kind states bytes at) old (Ok (counted v n operators last)) left
          made states old holds pairs r w =
              let count : n ≡ features states.sizes = total ∙ ap features holds.same in
              let front : behind_states kind states bytes at ≡ got (record { states = states; pairs = pairs; count = operators }) last = behind-rest states holds.same ∙ rw (r, f) in
              rw front (
                rw (same, holds.count, count) refl,
                w ∙ rw (holds.count, holds.are, count) (begun_more old (state_words states) (feature_words (features states.sizes) pairs) _ holds.ends),
              )

-- ---- behind states that were read

module _ (read : Parser States) (bytes : List ℕ) (from : ℕ) (words : List ℕ) where
  pub states-unread : (kind : Kind) (f : Fault) (left : List ℕ) → ReadsInto (read bytes from) (λ states. begun words (state_words states)) (Err f) left
      → HeaderInto (then read (behind_states kind) bytes from) words (Err f) left
  states-unread kind f left reads = header-fault _ words f left (unread _ _ _ _ (reads-fault _ _ (Err f) f left reads refl))

  module _ (old : List ℕ) (next : ℕ) (known : AfterStates read bytes from words old next) where
    pub cleared : words ≡ replicate (length words) 0 → slots_at most_variables most_features ≤ length words → length old ≡ length words → Cleared old (features (sizes_in old))
    cleared none room long =
        let v : get_or old 0 0 ≤ most_variables = omega (arith, known.count, known.known.0.variables) in
        let most : features (sizes_in old) ≤ most_features = rw known.same known.known.0.total in
        record {
          limits = rw known.same known.known.0;
          total = refl;
          headed = record { variables = v; features = most; words = omega arith };
          none = none_yet (features (sizes_in old)) most;
        }
      where
        none_yet : (n : ℕ) → n ≤ most_features → pairs_part (get_or old 0 0) n old ≡ replicate (words_for n) 0
        none_yet n most =
            let front = state_words known.value in
            rw (known.count, known.are, drop_at front (drop (length front) words) _ known.known.1) (
            rw none (rw (zeros-left (length front) (length words))
            (take-replicate (words_for n) (length words - length front) 0 (omega (arith, known.known.1, known.known.0.variables)))))

    pub header-behind : (kind : Kind) (answer : Result Header Fault) (left : List ℕ) → BehindInto kind bytes next old answer left → HeaderInto (then read (behind_states kind) bytes from) words answer left
    header-behind kind answer left behind = rw known.is
        (behind.into known.value words (record { are = known.are; count = known.count; same = known.same; ends = known.known.1 }))

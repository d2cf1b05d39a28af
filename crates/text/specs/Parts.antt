-- The parts of a line one behind the other, and how long a refusal's line is.
use Rattle.std.specs.Prelude.{ℕ, ◌+◌, ◌^◌, ◌<◌, ◌≤◌, ◌≡◌, List, [], ◌∷◌, ◌++◌, length, take, drop}
use Rattle.std.proofs.Common.{ap, ◌∙◌, length-append, take_at}
use native.Mathlib.Omega.{arith}
use Rattle.meaning.specs.Number.{Reason, Ends, Padded, Endless, Limit, Range, Unordered, LeftOver, Outgrown, Held, Unclosed}
use Rattle.meaning.specs.Number.{Small, Malformed, Gaps, Unequal, refusal}
use Rattle.meaning.specs.Answer.{Judged, fine, faulty}
use Rattle.meaning.specs.Place.{Spot, nowhere, in_task, in_weights}
use Rattle.meaning.specs.Line.{word, at_place, spot_text, refused_line}
use Rattle.theory.specs.Refusals.{Faulty}
use Rattle.theory.specs.Shown.{SpotWithin}
use Rattle.decimal.specs.Decimal.{word_width, word-few}
use Rattle.decimal.specs.Put.{Put, put-behind}

-- ---- the parts of a line

-- A text put from the front on is the front.
pub put_front : (entry part exit : List ℕ) (after : ℕ) → Put entry 0 part after exit → take after exit ≡ part
put_front entry part exit after w = ap (take after) w.stands ∙ take_at part (drop after entry) after (omega (arith, w.place))

pub put-within : (entry part exit : List ℕ) (after : ℕ) → Put entry 0 part after exit → after ≤ length exit
put-within entry part exit after w = omega (arith, w.place, ap length w.stands, length-append part (drop after entry))

-- A line of some bytes, one number and the line's end.
pub numbered-put : (bytes : List ℕ) (number : ℕ) {text line₁ line₂ line₃ : List ℕ} {first second end : ℕ} → first ≤ length line₁
    → Put text 0 bytes first line₁
    → Put line₁ first (word number) second line₂
    → Put line₂ second (10 ∷ []) end line₃
    → Put text 0 (bytes ++ (word number ++ (10 ∷ []))) end line₃
numbered-put bytes number h a b c = put-behind (omega arith) a (put-behind h b c)

-- ---- a refusal's line

pub refused-put : (number : ℕ) (place : List ℕ) {text line₁ line₂ line₃ line₄ : List ℕ} {first second third end : ℕ} → first ≤ length line₁ → second ≤ length line₂
    → Put text 0 (114 ∷ 101 ∷ 102 ∷ 117 ∷ 115 ∷ 101 ∷ 100 ∷ []) first line₁
    → Put line₁ first (word number) second line₂
    → Put line₂ second place third line₃
    → Put line₃ third (10 ∷ []) end line₄
    → Put text 0 (refused_line number place) end line₄
unfolding refused_line
refused-put number place h k a b c d = put-behind (omega arith) a (put-behind h b (put-behind k c d))

-- `at`, a place, and the name of a file.
pub place-put : (place : ℕ) (file : List ℕ) {at : ℕ} {text line₁ line₂ line₃ : List ℕ} {first second end : ℕ} → at ≤ length text
    → Put text at (32 ∷ 97 ∷ 116 ∷ []) first line₁ → Put line₁ first (word place) second line₂ → Put line₂ second file end line₃ → Put text at (at_place place ++ file) end line₃
unfolding at_place
place-put place file h a b c = put-behind h (put-behind h a b) c

-- How long a refusal's line is by what stands behind its number, and what stands there by its place.
pub refused-long : (number : ℕ) (behind : List ℕ) → length (refused_line number behind) ≡ 7 + length (word number) + length behind + 1
unfolding refused_line
refused-long number behind = omega (arith, length-append (word number) (behind ++ (10 ∷ [])), length-append behind (10 ∷ []))

pub place-long : (place : ℕ) (file : List ℕ) → length (at_place place ++ file) ≡ 3 + length (word place) + length file
unfolding at_place
place-long place file = omega (arith, length-append (word place) file)

-- Seven decimal digits hold every number of the lines but a place, twenty every place in a slice.
abbrev pub most_digits : ℕ
most_digits = 7

abbrev pub place_digits : ℕ
place_digits = 20

-- `refused`, a number, `at` and a place, ` in weights`, and the line's end.
abbrev pub refused_bytes : ℕ
refused_bytes = 7 + word_width most_digits + 3 + word_width place_digits + 11 + 1

-- A place that has few enough digits for a line.
abbrev pub ShortSpot : Spot → Type 0
ShortSpot nowhere = Unit {0}
ShortSpot (in_task place) = place < 10 ^ place_digits
ShortSpot (in_weights place) = place < 10 ^ place_digits

-- A place within files that are not longer than any slice.
module _ (task weights : List ℕ) (few : length task < 10 ^ place_digits) (few' : length weights < 10 ^ place_digits) where
  pub spot-short : (spot : Spot) → SpotWithin task weights spot → ShortSpot spot
  spot-short nowhere h = tt
  spot-short (in_task place) h = omega arith
  spot-short (in_weights place) h = omega arith

-- The name of a file is ` in weights` at the longest.
module _ (task weights : List ℕ) (few : length task ≤ 11) (few' : length weights ≤ 11) where
  placed-few : (place : ℕ) (file : List ℕ) → length file ≤ 11 → place < 10 ^ place_digits → length (at_place place ++ file) ≤ 3 + word_width place_digits + 11
  placed-few place file h short = omega (arith, place-long place file, word-few place_digits place (omega arith) short)

  spot-few : (spot : Spot) → ShortSpot spot → length (spot_text task weights spot) ≤ 3 + word_width place_digits + 11
  unfolding spot_text
  spot-few nowhere short = omega arith
  spot-few (in_task place) short = placed-few place task few short
  spot-few (in_weights place) short = placed-few place weights few' short

  pub refused-few : (number : ℕ) (spot : Spot) → number < 10 ^ most_digits → ShortSpot spot → length (refused_line number (spot_text task weights spot)) ≤ refused_bytes
  refused-few number spot short near = omega (arith, refused-long number (spot_text task weights spot), word-few most_digits number (omega arith) short, spot-few spot near)

-- A refusal's number has few enough digits for a line.
pub refusal-short : (reason : Reason) → refusal reason < 10 ^ most_digits
refusal-short Ends = omega arith
refusal-short Padded = omega arith
refusal-short Endless = omega arith
refusal-short Limit = omega arith
refusal-short Range = omega arith
refusal-short Unordered = omega arith
refusal-short LeftOver = omega arith
refusal-short Outgrown = omega arith
refusal-short Held = omega arith
refusal-short Unclosed = omega arith
refusal-short Small = omega arith
refusal-short Malformed = omega arith
refusal-short Gaps = omega arith
refusal-short Unequal = omega arith

-- So has the number of whatever is judged faulty.
pub faulty-short : (judged : Judged) (n : ℕ) → Faulty judged n → n < 10 ^ most_digits
faulty-short fine n h = absurd h
faulty-short (faulty reason) n h = rw h (refusal-short reason)

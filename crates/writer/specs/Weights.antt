-- What the calls that write a weight file answer, and what they leave in the lent bytes.
use Rattle.std.specs.Prelude.{ℕ, suc, ◌≡◌, List, [], ◌∷◌, leb, ltb, Result, Ok, Err}
use Rattle.meaning.specs.Limits.{most_features}
use Rattle.meaning.specs.Number.{Range, Unordered}
use Rattle.meaning.specs.File.{weight_bytes}
use Rattle.meaning.specs.Answer as meaning
use Rattle.number.specs.Answers.{reason_of}
use Rattle.number.specs.declared.Reason as code

-- Features "strictly increasing", from `least` on: range before order, and the first fault decides.
unfoldable pub weights_judged : ℕ → List ℕ → meaning.Judged
weights_judged least [] = meaning.fine
weights_judged least (f ∷ fs) =
    meaning.need (ltb f most_features) Range (meaning.need (leb least f) Unordered (weights_judged (suc f) fs))

-- By the judgement of a list: the outcome where nothing is wrong, or the refusal.
abbrev pub unless_faulty : {A : Type 0} → meaning.Judged → List ℕ → meaning.Outcome A → meaning.Outcome A
unless_faulty meaning.fine room outcome = outcome
unless_faulty (meaning.faulty reason) room outcome = meaning.refuses reason room

-- write_weights(weights, room): the list is judged, then the room.
unfoldable pub weights_written : List ℕ → List ℕ → meaning.Outcome ℕ
weights_written weights room = unless_faulty (weights_judged 0 weights) room (meaning.delivered (weight_bytes weights) room)

-- The same as a relation. For the features that words hold it is weight_file(words, room): there 4 is never given, since a set increases.
abbrev pub Writes : List ℕ → List ℕ → meaning.Outcome ℕ → Type 0
Writes weights room outcome = outcome ≡ weights_written weights room

-- What the judgement of the code says in the words of the meaning.
abbrev pub judged_of : {A : Type 0} → Result A code.Reason → meaning.Judged
judged_of (Ok _) = meaning.fine
judged_of (Err reason) = meaning.faulty (reason_of reason)

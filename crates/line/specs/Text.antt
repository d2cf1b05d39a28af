-- The parts of the line for weights that separate, one behind the other.
use Rattle.std.specs.Prelude.{ℕ, ◌≤◌, ◌≡◌, List, [], ◌∷◌, length}
use Rattle.std.proofs.Common.{arith}
use Rattle.meaning.specs.Answer.{done}
use Rattle.meaning.specs.Place.{nowhere}
use Rattle.meaning.specs.Line.{separating, word, words_in, line}
use Rattle.decimal.specs.Put.{Put, put-behind}
use Rattle.words.specs.Members.{members_in}

pub separated-put : (weights : List ℕ) {text line₁ line₂ line₃ line₄ : List ℕ} {first second third end : ℕ} (count : ℕ)
    → count ≡ length (members_in weights) → first ≤ length line₁
    → Put text 0 (115 ∷ 101 ∷ 112 ∷ 97 ∷ 114 ∷ 97 ∷ 116 ∷ 101 ∷ 100 ∷ []) first line₁
    → Put line₁ first (word count) second line₂
    → Put line₂ second (words_in (members_in weights)) third line₃
    → Put line₃ third (10 ∷ []) end line₄
    → Put text 0 (line nowhere (done (separating (members_in weights)))) end line₄
unfolding line words_in
separated-put weights count e h a b c d = put-behind (omega arith) a (put-behind h (put-behind h (rw e at b) c) d)

-- The marked set: document 01's cases A to L, one table and one theorem.
use Rattle.std.specs.Prelude.{ℕ, ◌≡◌, refl, Bool, true}
use mathlib.Core.List.{List, [], ◌∷◌, Memᴰ as In}
use Rattle.meaning.specs.Sets.{all_of}
use Rattle.meaning.specs.Answer.{Answer, done, refused, Verdict, ends_alike, breaks, Checks}
use Rattle.meaning.specs.Line.{Found, nothing, separating, Says}
use Rattle.theory.specs.Search.{all-at}
use Rattle.theory.specs.Tells.{Tells}
use Rattle.marked.specs.Decide.{says?, tells-says, checks?, tells-checks, computing}

-- What the finder says of a task file; or the verdict on a task file and a weight file.
pub data Case : Type 0 where
  finds : List ℕ → Answer Found → Case
  checks : List ℕ → List ℕ → Answer Verdict → Case

-- The definitions give this outcome.
abbrev pub Right : Case → Type 0
Right (finds task answer) = Says task answer
Right (checks task weights answer) = Checks task weights answer

-- Case B's file: "00 to 01, the four that flip both digits".
abbrev pub file_b : List ℕ
file_b = 2 ∷ 2 ∷ 2 ∷ 0 ∷ 0 ∷ 0 ∷ 1 ∷ 0 ∷ 4
    ∷ 2 ∷ 0 ∷ 0 ∷ 1 ∷ 1 ∷ 0 ∷ 1
    ∷ 2 ∷ 0 ∷ 0 ∷ 1 ∷ 1 ∷ 1 ∷ 0
    ∷ 2 ∷ 0 ∷ 1 ∷ 0 ∷ 1 ∷ 1 ∷ 0
    ∷ 2 ∷ 0 ∷ 1 ∷ 0 ∷ 1 ∷ 0 ∷ 1 ∷ []

-- A file: v, sizes, start, goal, pairs with their count, operators with theirs. Lift is the operator `1, 0 0 1`.
unfoldable pub marked : List Case
marked =
    -- A: 00 to 01, no operators: {2}
    finds (2 ∷ 2 ∷ 2 ∷ 0 ∷ 0 ∷ 0 ∷ 1 ∷ 0 ∷ 0 ∷ []) (done (separating (2 ∷ [])))
    -- B: 00 to 01, the four that flip both digits: {0,2}
    ∷ finds file_b (done (separating (0 ∷ 2 ∷ [])))
    -- C: 00 to 01, lift: {2}
    ∷ finds (2 ∷ 2 ∷ 2 ∷ 0 ∷ 0 ∷ 0 ∷ 1 ∷ 0 ∷ 1 ∷ 1 ∷ 0 ∷ 0 ∷ 1 ∷ []) (done (separating (2 ∷ [])))
    -- D: 00 to 10, lift: none
    ∷ finds (2 ∷ 2 ∷ 2 ∷ 0 ∷ 0 ∷ 1 ∷ 0 ∷ 0 ∷ 1 ∷ 1 ∷ 0 ∷ 0 ∷ 1 ∷ []) (done nothing)
    -- E: 10 to 00, lift: none, though unreachable
    ∷ finds (2 ∷ 2 ∷ 2 ∷ 1 ∷ 0 ∷ 0 ∷ 0 ∷ 0 ∷ 1 ∷ 1 ∷ 0 ∷ 0 ∷ 1 ∷ []) (done nothing)
    -- F: 00 to 00, none: none
    ∷ finds (2 ∷ 2 ∷ 2 ∷ 0 ∷ 0 ∷ 0 ∷ 0 ∷ 0 ∷ 0 ∷ []) (done nothing)
    -- G: as D, pair 7: refused 7
    ∷ finds (2 ∷ 2 ∷ 2 ∷ 0 ∷ 0 ∷ 1 ∷ 0 ∷ 1 ∷ 7 ∷ 1 ∷ 1 ∷ 0 ∷ 0 ∷ 1 ∷ []) (refused 7)
    -- H: 11 to 00, pair 7: refused 6
    ∷ finds (2 ∷ 2 ∷ 2 ∷ 1 ∷ 1 ∷ 0 ∷ 0 ∷ 1 ∷ 7 ∷ 0 ∷ []) (refused 6)
    -- I: 00 to 11, pair 7, (0: 0 to 1; 1: 0 to 0): {2}
    ∷ finds (2 ∷ 2 ∷ 2 ∷ 0 ∷ 0 ∷ 1 ∷ 1 ∷ 1 ∷ 7 ∷ 1 ∷ 2 ∷ 0 ∷ 0 ∷ 1 ∷ 1 ∷ 0 ∷ 0 ∷ []) (done (separating (2 ∷ [])))
    -- J: B with weights {0}: ends alike
    ∷ checks file_b (1 ∷ 0 ∷ []) (done ends_alike)
    -- K: B with weights {2}: operator 0
    ∷ checks file_b (1 ∷ 2 ∷ []) (done (breaks 0))
    -- L: as E, pairs 4 and 5 (lift is idle): {0}
    ∷ finds (2 ∷ 2 ∷ 2 ∷ 1 ∷ 0 ∷ 0 ∷ 0 ∷ 2 ∷ 4 ∷ 5 ∷ 1 ∷ 1 ∷ 0 ∷ 0 ∷ 1 ∷ []) (done (separating (0 ∷ [])))
    ∷ []

unfoldable pub right? : Case → Bool
right? (finds task answer) = says? task answer
right? (checks task weights answer) = checks? task weights answer

pub tells-right : (c : Case) → Tells (right? c) (Right c)
unfolding right?
tells-right (finds task answer) = tells-says task answer
tells-right (checks task weights answer) = tells-checks task weights answer

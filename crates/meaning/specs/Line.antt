-- The finder, the checker and the bay builder as programs: what they say of their files, and the lines that they print.
use Rattle.std.specs.Prelude.{ℕ, zero, suc, ◌+◌, ◌/◌, ◌%◌, ◌≡◌, Bool, true, false, ◌||◌, cond, List, [], ◌∷◌, ◌++◌, length, ltb}
use Rattle.meaning.specs.Sets.{Set, listed}
use Rattle.meaning.specs.Limits.{most_input, most_program_features, most_task, most_weights}
use Rattle.meaning.specs.Task.{Task, Run}
use Rattle.meaning.specs.Feature.{features}
use Rattle.meaning.specs.Weight.{Separates, LeastOf}
use Rattle.meaning.specs.Number.{Small, refusal, Read, got, fault}
use Rattle.meaning.specs.File.{plain, judged_task}
use Rattle.meaning.specs.Answer.{Answer, done, refused, by_read, Verdict, accepted, ends_alike, breaks, Checks}
use Rattle.meaning.specs.Bay.{judged_bay}
use Rattle.meaning.specs.Place.{Spot, nowhere, in_task, in_weights, spot_alone, spot_beside}

-- ---- the finder's answer

-- The least separating set as a list of features; or none.
pub data Found : Type 0 where
  nothing : Found
  separating : List ℕ → Found

-- What is to be found for an accepted task: "The finder's answer is the least separating set."
abbrev pub Seeks : Task → Found → Type 0
Seeks T nothing = (other : Set) → Separates T other → ⊥
Seeks T (separating fs) = Run 0 fs (features T.sizes) × LeastOf (features T.sizes) (Separates T) (listed fs)

-- The finder's answer for a task file.
abbrev pub Says : List ℕ → Answer Found → Type 0
Says task answer =
    by_read (judged_task task)
    (λ T. (found : Found) × (answer ≡ done found) × Seeks T found)
    (λ reason. answer ≡ refused (refusal reason))

abbrev pub too_large : Read Task → Bool
too_large (got T next) = ltb most_program_features (features T.sizes)
too_large (fault reason place) = false

-- The program's answer: "More than 8,192 bytes give 8 before anything is judged; more than 640 features give 8 after 7."
abbrev pub Prints : List ℕ → Answer Found → Type 0
Prints input answer =
    cond (ltb most_input (length input) || too_large (judged_task input)) (answer ≡ refused (refusal Small)) (Says input answer)

-- ---- the parts of a line: "numbers are decimal; one blank between", and one line feed

-- The decimal digits of a number, as many as it has, if it has no more than so many.
unfoldable pub digits : ℕ → ℕ → List ℕ
digits zero n = []
digits (suc k) n = elim (ltb n 10) [ true ↦ (48 + n) ∷ [] | false ↦ digits k (n / 10) ++ ((48 + n % 10) ∷ []) ]

-- A blank and a number in decimal: no number n has more than n + 1 digits.
unfoldable pub word : ℕ → List ℕ
word n = 32 ∷ digits (suc n) n

unfoldable pub words_in : List ℕ → List ℕ
words_in [] = []
words_in (n ∷ ns) = word n ++ words_in ns

-- "`at` and the place"
unfoldable pub at_place : ℕ → List ℕ
at_place place = 32 ∷ 97 ∷ 116 ∷ word place

-- Where a fault stands, "or as before without one", and the name of the file that holds it.
unfoldable pub spot_text : List ℕ → List ℕ → Spot → List ℕ
spot_text task weights nowhere = []
spot_text task weights (in_task place) = at_place place ++ task
spot_text task weights (in_weights place) = at_place place ++ weights

-- A file that comes alone is not named; of two files, ` in task` and ` in weights`.
unfoldable pub place_text : Spot → List ℕ
place_text = spot_text [] []

unfoldable pub file_text : Spot → List ℕ
file_text = spot_text (32 ∷ 105 ∷ 110 ∷ 32 ∷ 116 ∷ 97 ∷ 115 ∷ 107 ∷ []) (32 ∷ 105 ∷ 110 ∷ 32 ∷ 119 ∷ 101 ∷ 105 ∷ 103 ∷ 104 ∷ 116 ∷ 115 ∷ [])

-- "The program prints `refused`, the number, `at` and the place, or as before without one." (Document 01 said: "or `refused` and the number".)
unfoldable pub refused_line : ℕ → List ℕ → List ℕ
refused_line n place = (114 ∷ 101 ∷ 102 ∷ 117 ∷ 115 ∷ 101 ∷ 100 ∷ []) ++ (word n ++ (place ++ (10 ∷ [])))

-- ---- the finder's line

-- "It prints one line: `separated`, the count and the features, increasing; or `none`"; or the refusal and its place.
unfoldable pub line : Spot → Answer Found → List ℕ
line spot (done (separating fs)) = (115 ∷ 101 ∷ 112 ∷ 97 ∷ 114 ∷ 97 ∷ 116 ∷ 101 ∷ 100 ∷ []) ++ (words_in (length fs ∷ fs) ++ (10 ∷ []))
line spot (done nothing) = 110 ∷ 111 ∷ 110 ∷ 101 ∷ 10 ∷ []
line spot (refused n) = refused_line n (place_text spot)

-- A file that is too long is not judged, so no place is known in it.
abbrev pub printed_spot : List ℕ → Spot
printed_spot input = cond (ltb most_input (length input)) nowhere (spot_alone (judged_task input))

-- ---- the checker's line

-- A task file of more than 1,048,576 bytes, or a weight file of more than 131,072.
abbrev pub too_long : List ℕ → List ℕ → Bool
too_long task weights = ltb most_task (length task) || ltb most_weights (length weights)

-- The checker program's answer: a file that is too long gives 8 before anything is judged.
abbrev pub ChecksFiles : List ℕ → List ℕ → Answer Verdict → Type 0
ChecksFiles task weights answer =
    cond (too_long task weights) (answer ≡ refused (refusal Small)) (Checks task weights answer)

-- Where the first fault of the two files stands; if one of them is too long none is known.
abbrev pub checked_spot : List ℕ → List ℕ → Spot
checked_spot task weights = spot_beside plain (judged_task task) weights

abbrev pub files_spot : List ℕ → List ℕ → Spot
files_spot task weights = cond (too_long task weights) nowhere (checked_spot task weights)

-- `accepted`; or `rejected ends alike`; or `rejected operator` and its number; or the refusal, its place and its file.
unfoldable pub verdict_line : Spot → Answer Verdict → List ℕ
verdict_line spot (done accepted) = 97 ∷ 99 ∷ 99 ∷ 101 ∷ 112 ∷ 116 ∷ 101 ∷ 100 ∷ 10 ∷ []
verdict_line spot (done ends_alike) =
    114 ∷ 101 ∷ 106 ∷ 101 ∷ 99 ∷ 116 ∷ 101 ∷ 100 ∷ 32 ∷ 101 ∷ 110 ∷ 100 ∷ 115 ∷ 32 ∷ 97 ∷ 108 ∷ 105 ∷ 107 ∷ 101 ∷ 10 ∷ []
verdict_line spot (done (breaks j)) =
    (114 ∷ 101 ∷ 106 ∷ 101 ∷ 99 ∷ 116 ∷ 101 ∷ 100 ∷ 32 ∷ 111 ∷ 112 ∷ 101 ∷ 114 ∷ 97 ∷ 116 ∷ 111 ∷ 114 ∷ []) ++ (word j ++ (10 ∷ []))
verdict_line spot (refused n) = refused_line n (file_text spot)

-- ---- the bay builder's line

-- What the program prints for a bay file that it refuses by a number.
unfoldable pub bay_line : List ℕ → ℕ → List ℕ
bay_line bay n = refused_line n (place_text (spot_alone (judged_bay bay)))

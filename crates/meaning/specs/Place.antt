-- Point at the bad bytes (document 02, ticket 5): where the first fault of a file stands, the bytes that are shown of it, and the calls that show them.
use Rattle.std.specs.Prelude.{ℕ, ◌≡◌, cond, List, [], ◌∷◌, length, take, drop, ltb}
use Rattle.meaning.specs.Limits.{place_words}
use Rattle.meaning.specs.Task.{Task}
use Rattle.meaning.specs.Feature.{features}
use Rattle.meaning.specs.Number.{Reason, Small, has_place, Read, got, fault, bytes_read}
use Rattle.meaning.specs.File.{Kind, plain, gapped, judged_task, judged_weights_as}
use Rattle.meaning.specs.Answer.{Outcome, refuses, writes}
use Rattle.meaning.specs.Bay.{judged_bay}
use Rattle.meaning.specs.Partial.{left_out, judged_partial}

-- ---- where a fault stands

-- A place in one of two files that "arrive together", counted from the start of the file that holds it; or none. A file that comes alone stands in the task's place.
pub data Spot : Type 0 where
  nowhere : Spot
  in_task in_weights : ℕ → Spot

-- "With refusals 1 to 4, 12 and 13 the reader gives the place of the first byte of the number being read"; "a 2 judged after 5 has none".
abbrev pub fault_spot : (ℕ → Spot) → Reason → ℕ → Spot
fault_spot file reason place = cond (has_place reason) (file place) nowhere

-- Where nothing is refused, what is read next decides.
abbrev pub spot_by : {A : Type 0} → (ℕ → Spot) → Read A → (A → Spot) → Spot
spot_by file (got a next) rest = rest a
spot_by file (fault reason place) rest = fault_spot file reason place

-- The first fault of a file that comes alone.
abbrev pub spot_alone : {A : Type 0} → Read A → Spot
spot_alone read = spot_by in_task read (λ _. nowhere)

-- The first fault of a task that was judged and of the weights beside it: "Weights are read after a fully accepted task."
abbrev pub spot_beside : Kind → Read Task → List ℕ → Spot
spot_beside kind judged weights =
    spot_by in_task judged (λ T. spot_by in_weights (judged_weights_as kind (features T.sizes) weights) (λ _. nowhere))

-- ---- what is shown

-- A part of the task or of the weights: where it begins, and how many bytes it has.
pub data Part : Type 0 where
  of_task of_weights : ℕ → ℕ → Part

-- "that number's bytes as far as they were read. Where the file ends before the number begins, this part is empty there; without a place it is empty at the task's start."
abbrev pub part_at : List ℕ → List ℕ → Spot → Part
part_at task weights nowhere = of_task 0 0
part_at task weights (in_task place) = of_task place (bytes_read task place)
part_at task weights (in_weights place) = of_weights place (bytes_read weights place)

-- "the offending bytes, taken from whichever of the two files holds them"; the caller says which kind the weights are.
unfoldable pub shown_as : Kind → List ℕ → List ℕ → Part
shown_as kind task weights = part_at task weights (spot_beside kind (judged_task task) weights)

abbrev pub shown : List ℕ → List ℕ → Part
shown = shown_as plain

-- The same of a partial task file and weights for its built task. Which forgetting operators are left out moves no place.
unfoldable pub shown_partial : List ℕ → List ℕ → Part
shown_partial partial weights = part_at partial weights (spot_beside plain (judged_partial left_out partial) weights)

-- The same of a bay file, which comes alone.
unfoldable pub shown_bay : List ℕ → Part
shown_bay bay = part_at bay [] (spot_alone (judged_bay bay))

-- The bytes of a part.
abbrev pub bytes_in : List ℕ → List ℕ → Part → List ℕ
bytes_in task weights (of_task place many) = take many (drop place task)
bytes_in task weights (of_weights place many) = take many (drop place weights)

-- ---- the calls

-- Which of the two files holds a part.
pub data Holder : Type 0 where
  task_holds weights_hold : Holder

abbrev pub holder_of : Part → Holder
holder_of (of_task place many) = task_holds
holder_of (of_weights place many) = weights_hold

-- Its beginning and its length.
abbrev pub part_words : Part → List ℕ
part_words (of_task place many) = place ∷ many ∷ []
part_words (of_weights place many) = place ∷ many ∷ []

-- The two words of a part go to the front of the room; 8 where it has fewer.
abbrev pub displayed : Part → List ℕ → Outcome Holder
displayed part room = cond (ltb (length room) place_words) (refuses Small room) (writes (holder_of part) (part_words part) room)

-- display(task, weights, room)
abbrev pub Displays : List ℕ → List ℕ → List ℕ → Outcome Holder → Type 0
Displays task weights room outcome = outcome ≡ displayed (shown task weights) room

-- display_new(task, weights, room)
abbrev pub DisplaysNew : List ℕ → List ℕ → List ℕ → Outcome Holder → Type 0
DisplaysNew task weights room outcome = outcome ≡ displayed (shown_as gapped task weights) room

-- display_partial(partial, weights, room)
abbrev pub DisplaysPartial : List ℕ → List ℕ → List ℕ → Outcome Holder → Type 0
DisplaysPartial partial weights room outcome = outcome ≡ displayed (shown_partial partial weights) room

-- display_bay(bay, room)
abbrev pub DisplaysBay : List ℕ → List ℕ → Outcome Holder → Type 0
DisplaysBay bay room outcome = outcome ≡ displayed (shown_bay bay) room

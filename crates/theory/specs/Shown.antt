-- What is shown of a file: the place of a fault and the bytes that are shown lie within the file that holds them; and when a call that shows them refuses.
use Rattle.std.specs.Prelude.{ℕ, ◌+◌, ◌≤◌, ◌≡◌, refl, true, List, [], length}
use Rattle.std.proofs.Common.{arith}
use Rattle.meaning.specs.Limits.{place_words}
use Rattle.meaning.specs.Feature.{features}
use Rattle.meaning.specs.Task.{Task}
use Rattle.meaning.specs.Number.{Reason, has_place, Read, got, fault}
use Rattle.meaning.specs.File.{Kind, plain, gapped, judged_task, judged_weights_as}
use Rattle.meaning.specs.Bay.{judged_bay}
use Rattle.meaning.specs.Partial.{left_out, judged_partial}
use Rattle.meaning.specs.Place.{Spot, nowhere, in_task, in_weights, spot_by, spot_alone, spot_beside, Part, of_task, of_weights, part_at, shown_as, shown, shown_partial, shown_bay, displayed, Displays, DisplaysNew, DisplaysPartial, DisplaysBay}
use Rattle.theory.specs.Truth.{on, off, test}
use Rattle.theory.specs.Determined.{is-only}
use Rattle.theory.specs.Refusals.{Faulty, room_judged, RefusesExactly, refuses-exactly, displayed-refused}
use Rattle.theory.specs.Places.{read-within, task-pointed, weights-pointed, partial-pointed, bay-pointed}

-- ---- the place of a fault

-- The place lies within the file that holds it.
abbrev pub SpotWithin : List ℕ → List ℕ → Spot → Type 0
SpotWithin task weights nowhere = Unit {0}
SpotWithin task weights (in_task place) = place ≤ length task
SpotWithin task weights (in_weights place) = place ≤ length weights

-- A fault that has a place has it within the file.
abbrev FaultWithin : {A : Type 0} → List ℕ → Read A → Type 0
FaultWithin bytes r = (reason : Reason) (place : ℕ) → r ≡ fault reason place → has_place reason ≡ true → place ≤ length bytes

module _ (task weights : List ℕ) where
  spot-by : {A : Type 0} (file : ℕ → Spot) (bytes : List ℕ) (r : Read A) (rest : A → Spot) → ((place : ℕ) → place ≤ length bytes → SpotWithin task weights (file place))
      → FaultWithin bytes r → ((a : A) → SpotWithin task weights (rest a)) → SpotWithin task weights (spot_by file r rest)
  spot-by file bytes (got a next) rest there h k = k a
  spot-by file bytes (fault reason place) rest there h k = elim (test (has_place reason)) [ on e ↦ rw e (there place (h reason place refl e)) | off e ↦ rw e tt ]

  spot-beside : (kind : Kind) (r : Read Task) → FaultWithin task r → SpotWithin task weights (spot_beside kind r weights)
  spot-beside kind r h = spot-by in_task task r _ (λ place l. l) h (λ T.
      spot-by in_weights weights (judged_weights_as kind (features T.sizes) weights) _ (λ place l. l)
      (λ reason place e k. omega (arith, (weights-pointed weights reason place kind (features T.sizes) e k).within)) (λ ws. tt))

  pub spot-within : (kind : Kind) → SpotWithin task weights (spot_beside kind (judged_task task) weights)
  spot-within kind = spot-beside kind (judged_task task) (λ reason place e h. omega (arith, (task-pointed task reason place e h).within))

  pub spot-partial-within : SpotWithin task weights (spot_beside plain (judged_partial left_out task) weights)
  spot-partial-within = spot-beside plain (judged_partial left_out task) (λ reason place e h. omega (arith, (partial-pointed task reason place left_out e h).within))

  -- Of a task file that comes alone, and of a bay file.
  pub spot-task-within : SpotWithin task weights (spot_alone (judged_task task))
  spot-task-within = spot-by in_task task (judged_task task) _ (λ place l. l) (λ reason place e h. omega (arith, (task-pointed task reason place e h).within)) (λ T. tt)

  pub spot-bay-within : SpotWithin task weights (spot_alone (judged_bay task))
  spot-bay-within = spot-by in_task task (judged_bay task) _ (λ place l. l) (λ reason place e h. omega (arith, (bay-pointed task reason place e h).within)) (λ b. tt)

-- ---- what is shown

-- A part lies within the file that holds it.
abbrev pub PartWithin : List ℕ → List ℕ → Part → Type 0
PartWithin task weights (of_task place many) = place + many ≤ length task
PartWithin task weights (of_weights place many) = place + many ≤ length weights

part-within : (task weights : List ℕ) (spot : Spot) → SpotWithin task weights spot → PartWithin task weights (part_at task weights spot)
part-within task weights nowhere h = omega arith
part-within task weights (in_task place) h = read-within task place h
part-within task weights (in_weights place) h = read-within weights place h

pub shown-within : (kind : Kind) (task weights : List ℕ) → PartWithin task weights (shown_as kind task weights)
unfolding shown_as
shown-within kind task weights = part-within task weights (spot_beside kind (judged_task task) weights) (spot-within task weights kind)

pub shown-partial-within : (partial weights : List ℕ) → PartWithin partial weights (shown_partial partial weights)
unfolding shown_partial
shown-partial-within partial weights = part-within partial weights (spot_beside plain (judged_partial left_out partial) weights) (spot-partial-within partial weights)

pub shown-bay-within : (bay : List ℕ) → PartWithin bay [] (shown_bay bay)
unfolding shown_bay
shown-bay-within bay = part-within bay [] (spot_alone (judged_bay bay)) (spot-bay-within bay [])

-- ---- when the calls refuse

-- Whatever part is due: 8 where the room has no two words, and nothing else.
pub displays-exactly : (part : Part) (room : List ℕ) → RefusesExactly (λ outcome. outcome ≡ displayed part room) room (Faulty (room_judged place_words room))
displays-exactly part room = refuses-exactly (is-only (displayed part room)) (λ n left. displayed-refused n left part room)

pub display-refuses : (task weights room : List ℕ) → RefusesExactly (Displays task weights room) room (Faulty (room_judged place_words room))
display-refuses task weights = displays-exactly (shown task weights)

pub display-new-refuses : (task weights room : List ℕ) → RefusesExactly (DisplaysNew task weights room) room (Faulty (room_judged place_words room))
display-new-refuses task weights = displays-exactly (shown_as gapped task weights)

pub display-partial-refuses : (partial weights room : List ℕ) → RefusesExactly (DisplaysPartial partial weights room) room (Faulty (room_judged place_words room))
display-partial-refuses partial weights = displays-exactly (shown_partial partial weights)

pub display-bay-refuses : (bay room : List ℕ) → RefusesExactly (DisplaysBay bay room) room (Faulty (room_judged place_words room))
display-bay-refuses bay = displays-exactly (shown_bay bay)

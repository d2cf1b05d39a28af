-- A small order with a lot, by computing: four slots in a row hold two pallets 1, a pallet 2 and the gap; wanted is the 2 between the other two. No moves lead there.
use Rattle.std.specs.Prelude.{ℕ, ◌≡◌, refl, List, [], ◌∷◌, length}
use Rattle.std.proofs.Common.{arith}
use Rattle.meaning.specs.Sets.{listed}
use Rattle.meaning.specs.Task.{Run}
use Rattle.meaning.specs.Feature.{features}
use Rattle.meaning.specs.Weight.{Separates}
use Rattle.meaning.specs.Number.{got}
use Rattle.meaning.specs.File.{weight_bytes, task_bytes}
use Rattle.meaning.specs.Answer.{done, accepted, Checks}
use Rattle.meaning.specs.Bay.{Bay, judged_bay, neighbours, bay_task}
use Rattle.theory.specs.ReadBack.{weights-back}
use Rattle.theory.specs.Sound.{sound}
use Rattle.theory.specs.BayMoves.{Moves}
use Rattle.theory.specs.BayTask.{bay-accepted, bay-read, bay-unsolvable}
use Rattle.theory.specs.Demands.{accepts-exactly}
use Rattle.marked.specs.Decide.{bays, tells-separates}

abbrev file_of_lane : List ℕ
file_of_lane = 1 ∷ 4 ∷ 1 ∷ 1 ∷ 2 ∷ 0 ∷ 1 ∷ 2 ∷ 1 ∷ 0 ∷ []

abbrev lane : Bay
lane = record { rows = 1; columns = 4; start = 1 ∷ 1 ∷ 2 ∷ 0 ∷ []; goal = 1 ∷ 2 ∷ 1 ∷ 0 ∷ [] }

pub lane-read : judged_bay file_of_lane ≡ got lane 10
unfolding bays
lane-read = refl

-- Pallet 2 in the last slot, or the gap there and pallet 2 beside it: no move changes whether one of these holds.
abbrev weights : List ℕ
weights = 14 ∷ 104 ∷ []

pub lane-separates : Separates (bay_task lane) (listed weights)
unfolding bays
lane-separates = (tells-separates (bay_task lane) (listed weights)).yes refl

-- So the checker accepts them for the bay's task file,
pub lane-accepted : Checks (task_bytes (bay_task lane)) (weight_bytes weights) (done accepted)
unfolding bays Run
lane-accepted =
    let file = task_bytes (bay_task lane) in
    let read = weights-back (features (bay_task lane).sizes) weights (omega arith) (omega arith, (omega arith, omega arith)) in
    (accepts-exactly file (bay_task lane) (length file) (bay-read file_of_lane lane 10 lane-read) (weight_bytes weights) weights (length (weight_bytes weights)) read).1 lane-separates

-- and no moves lead from the start to the goal.
pub lane-impossible : (ms : List (List ℕ)) → Moves 4 (neighbours 4) ms lane.start lane.goal → ⊥
lane-impossible = (bay-unsolvable file_of_lane lane 10 lane-read).0 (sound (bay_task lane) (listed weights) (bay-accepted file_of_lane lane 10 lane-read).acceptable lane-separates)

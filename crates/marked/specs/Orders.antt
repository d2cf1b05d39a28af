-- A small order that names some slots, by computing: three slots in a row hold the gap and the pallets 1 and 2; wanted are 2 and 1 in the first two. No sequence of moves meets it.
use Rattle.std.specs.Prelude.{ℕ, ◌≡◌, refl, List, [], ◌∷◌, length}
use Rattle.std.proofs.Common.{arith}
use Rattle.meaning.specs.Sets.{table, listed}
use Rattle.meaning.specs.Task.{Task, Run}
use Rattle.meaning.specs.Feature.{features}
use Rattle.meaning.specs.Weight.{Separates}
use Rattle.meaning.specs.Number.{got}
use Rattle.meaning.specs.File.{weight_bytes, task_bytes}
use Rattle.meaning.specs.Answer.{done, accepted, Checks}
use Rattle.meaning.specs.Bay.{Bay, judged_bay, bay_task}
use Rattle.meaning.specs.Partial.{Partial, Met, named, each_pair, built_pairs, forgettings, built_task, against_goal, left_out_lean, silenced, partial_bytes}
use Rattle.theory.specs.ReadBack.{weights-back}
use Rattle.theory.specs.Demands.{accepts-exactly}
use Rattle.theory.specs.PartialDemands.{built-accepted}
use Rattle.theory.specs.BayOrders.{order-accepted, lean-impossible}
use Rattle.marked.specs.Decide.{bays, tells-separates}

-- To name it on an `unfolding` line opens what a bay and its order are computed with.
ordering : Unit {0}
unfolding bays silenced table built_task built_pairs each_pair forgettings against_goal left_out_lean named
ordering = tt

-- The order is completed by the gap in the last slot.
abbrev file_of_row : List ℕ
file_of_row = 1 ∷ 3 ∷ 0 ∷ 1 ∷ 2 ∷ 2 ∷ 1 ∷ 0 ∷ []

abbrev row : Bay
row = record { rows = 1; columns = 3; start = 0 ∷ 1 ∷ 2 ∷ []; goal = 2 ∷ 1 ∷ 0 ∷ [] }

pub row_read : judged_bay file_of_row ≡ got row 8
unfolding ordering
row_read = refl

-- The last slot is silent.
abbrev marks : List ℕ
marks = 1 ∷ 1 ∷ 0 ∷ []

abbrev order : Partial
order = silenced (bay_task row) marks

abbrev lean : Task
lean = built_task order (left_out_lean order)

-- Pallet 1 in the first slot, or the gap there and pallet 1 in the second: no move changes whether one of these holds.
abbrev weights : List ℕ
weights = 1 ∷ 13 ∷ []

pub row-separates : Separates lean (listed weights)
unfolding ordering
row-separates = (tells-separates lean (listed weights)).yes refl

-- So the checker accepts them for the lean task's file,
pub row-accepted : Checks (task_bytes lean) (weight_bytes weights) (done accepted)
unfolding ordering Run
row-accepted =
    let file = partial_bytes order in
    let judged = built-accepted file left_out_lean lean (length file) (order-accepted file_of_row row 8 row_read marks (omega arith) left_out_lean) in
    let read = weights-back (features lean.sizes) weights (omega arith) (omega arith, (omega arith, omega arith)) in
    (accepts-exactly (task_bytes lean) lean (length (task_bytes lean)) judged (weight_bytes weights) weights (length (weight_bytes weights)) read).1 row-separates

-- and no sequence of moves meets the order.
pub row-impossible : Met order → ⊥
row-impossible = lean-impossible file_of_row row 8 row_read marks (omega arith) (weight_bytes weights) row-accepted

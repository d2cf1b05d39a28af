-- `put_spot`: each spot has its text.
use mathlib.Core.Path.{◌≡◌, refl, ap}
use mathlib.Core.List.{◌++◌}
use native.Mathlib.Omega.{arith}
use lib.ListN.{length}
use Rattle.std.specs.Prelude.{Some}
use Rattle.meaning.specs.Line.{at_place, spot_text}
use Rattle.placing.specs.Answers.{spot_of}
use Rattle.placing.specs.declared.Spot.TheVariants.{InTask, InWeights}
use Rattle.decimal.specs.Put.{put-none}
use Rattle.text.proofs.put_spot.Goals as goal
use Rattle.text.proofs.put_spot.Goals.{In-Some-InTask, In-Some-InWeights}

-- What is put for a place in the task, and for one in the weights.
in-task : (c : In-Some-InTask) → let a = c.args in spot_text a.task.now a.weights.now (spot_of a.spot) ≡ at_place c.in-Some-InTask.place ++ a.task.now
unfolding spot_text
in-task c =
    let told = c.in-Some-InTask in
    let spot : c.args.spot ≡ Some told.field-0 = told.is in
    let field : told.field-0 ≡ InTask told.place = rw spot at told.field-0-is in
    rw (spot, field) refl

in-weights : (c : In-Some-InWeights) → let a = c.args in spot_text a.task.now a.weights.now (spot_of a.spot) ≡ at_place c.in-Some-InWeights.place ++ a.weights.now
unfolding spot_text
in-weights c =
    let told = c.in-Some-InWeights in
    let spot : c.args.spot ≡ Some told.field-0 = told.is in
    let field : told.field-0 ≡ InWeights told.place = rw spot at told.field-0-is in
    rw (spot, field) refl

pub put_place-requires : goal.put_place-requires
put_place-requires c = omega (arith, ap length (in-task (goal.at.put_place-requires c).In-Some-InTask))

pub put_place-requires-in-Some-InWeights : goal.put_place-requires-in-Some-InWeights
put_place-requires-in-Some-InWeights c = omega (arith, ap length (in-weights (goal.at.put_place-requires-in-Some-InWeights c).In-Some-InWeights))

pub returns-in-None : goal.returns-in-None
unfolding spot_text
returns-in-None c = rw c.in-None.is (put-none _ _)

pub returns-in-Some-InTask : goal.returns-in-Some-InTask
returns-in-Some-InTask c = rw (in-task (goal.at.returns-in-Some-InTask c).In-Some-InTask) c.put_place.ensures

pub returns-in-Some-InWeights : goal.returns-in-Some-InWeights
returns-in-Some-InWeights c = rw (in-weights (goal.at.returns-in-Some-InWeights c).In-Some-InWeights) c.put_place-in-Some-InWeights.ensures

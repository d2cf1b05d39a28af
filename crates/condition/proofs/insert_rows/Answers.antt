-- `insert_rows`: inserting all rows into the first slots is inserting those that the walk has left into the present ones (`Inserting`).
use mathlib.Core.Path.{refl}
use Rattle.condition.specs.Walk.{base-state, base-applies}
use Rattle.condition.specs.Slotted.{inserting-turn, inserting-done}
use Rattle.condition.proofs.insert_rows.Goals as goal

pub first_row-walk-requires : goal.first_row-walk-requires
first_row-walk-requires c = let p = c.requires in let h = p.0.1 in (h.given, base-state h, base-applies h, p.3)

pub loop-walk-init : goal.loop-walk-init
loop-walk-init c = (_, c.first_row-walk.ensures _, record { waiting = c.requires.2; rest = refl })

pub loop-walk-preserved : goal.loop-walk-preserved
loop-walk-preserved c = let (left, walked, inserting) = c.loop-walk.invariant in
    (_, c.next_row-walk.ensures, inserting-turn _ _ _ _ _ _ _ inserting _ _ _ _ _ (rw c.in-Some.is at walked.rest) c.insert.ensures.waiting c.insert.ensures.row)

pub returns-clause-rows : goal.returns-clause-rows
returns-clause-rows c = let (left, walked, inserting) = c.loop-walk.invariant in inserting-done _ _ _ _ _ _ _ inserting (rw c.in_default.is at walked.rest)

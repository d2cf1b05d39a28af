-- `insert_rows`: inserting all rows into the first slots is inserting those that the walk has left into the present ones (`Inserting`).
use mathlib.Core.List.{List}
use lib.ListN.{length}
use Rattle.meaning.specs.Sets.{Set}
use Rattle.slots.specs.Waiting.{settled_in}
use Rattle.condition.specs.Walk.{Walked, rows_by, rows_left}
use Rattle.condition.specs.Slotted.{Inserting}
use Rattle.condition.proofs.insert_rows.Given as goal

abbrev pub invariant-loop-walk : goal.invariant-loop-walk
invariant-loop-walk l = (left : List Set) × Walked l.sizes l.entries l.possible l.state l.row l.walk left
    × Inserting l.n (settled_in l.n l.initial.pending l.initial.area) (rows_by l.sizes l.entries l.possible l.state) l.full l.pending l.area left

abbrev pub decreases-loop-walk : goal.decreases-loop-walk
decreases-loop-walk l = length (rows_left l.sizes l.entries l.possible l.state l.row l.walk)

-- `all_even`: whether all rows are met evenly is whether those that the walk has left are.
use mathlib.Core.Path.{◌≡◌}
use mathlib.Core.List.{List}
use lib.ListN.{length}
use Rattle.meaning.specs.Sets.{Set}
use Rattle.meaning.specs.Feature.{features}
use Rattle.meaning.specs.Workspace.{has}
use Rattle.condition.specs.Walk.{Walked, rows_by, rows_left, all_even}
use Rattle.condition.proofs.all_even.Given as goal

abbrev pub invariant-loop-walk : goal.invariant-loop-walk
invariant-loop-walk l =
    (left : List Set) × Walked l.sizes l.entries l.possible l.state l.row l.walk left
    × (all_even (features l.sizes) (has l.weights) (rows_by l.sizes l.entries l.possible l.state) ≡ all_even (features l.sizes) (has l.weights) left)

abbrev pub decreases-loop-walk : goal.decreases-loop-walk
decreases-loop-walk l = length (rows_left l.sizes l.entries l.possible l.state l.row l.walk)

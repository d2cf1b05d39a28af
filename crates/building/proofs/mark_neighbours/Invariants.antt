-- `mark_neighbours` fills the table place by place.
use mathlib.Core.Path.{◌≡◌}
use lib.ListN.{length}
use Rattle.meaning.specs.Bay.{neighbours}
use Rattle.sliding.specs.Readers.{Filled}
use Rattle.building.proofs.mark_neighbours.Given as goal

abbrev pub invariant-loop-place : goal.invariant-loop-place
invariant-loop-place l = (length l.near ≡ length l.initial.near) × Filled l.n (neighbours l.columns) l.near l.place

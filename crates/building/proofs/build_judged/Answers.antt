-- `build_judged` lends the core the prefix of an array that holds the table.
use Prim.Native.Nat.{ℕ, ◌*◌, ◌≤◌}
use mathlib.Core.Path.{◌≡◌, ◌∙◌}
use mathlib.Core.List.{List, ◌++◌}
use lib.ListN.{take, drop, replicate}
use Rattle.meaning.specs.Limits.{most_slots}
use Rattle.meaning.specs.Bay.{slot_count, neighbours}
use Rattle.sliding.specs.Readers.{near_table, few-places, front-table}
use Rattle.building.specs.Answers.{bay_in}
use Rattle.building.specs.Outcomes.{built-judged}
use Rattle.building.proofs.build_judged.Goals as goal
use Rattle.building.proofs.build_judged.Goals.{After-mark_neighbours, Start}

abbrev slots : (c : Start) → ℕ
slots c = slot_count (bay_in c.args.sides c.args.start.now c.args.goal.now)

-- The places of the table are places of the array.
few : (c : Start) → slots c * slots c ≤ most_slots * most_slots
few c = few-places (slots c) c.requires.slots-limit.1

-- The array as it was made.
abbrev zeros : List ℕ
zeros = replicate (most_slots * most_slots) 0

-- The table that the core is lent, and that it stands in the array.
lent : (c : After-mark_neighbours) → let n = slots (goal.at.After-mark_neighbours c).Start in
    take (n * n) (c.mark_neighbours.new.near ++ drop (n * n) zeros) ≡ near_table (n * n) n (neighbours c.args.sides.columns)
lent c = front-table (slots (goal.at.After-mark_neighbours c).Start) (neighbours c.args.sides.columns) zeros _ (few (goal.at.After-mark_neighbours c).Start) c.mark_neighbours.ensures

pub returns : goal.returns
returns c next = let a = c.args in c.build.ensures ∙ built-judged (bay_in a.sides a.start.now a.goal.now) c.requires _ a.room.now next (lent (goal.at.returns c).After-mark_neighbours)

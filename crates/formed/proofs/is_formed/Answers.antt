-- `formed::is_formed`: the parts have their lengths, and their content is that of the words.
use native.Mathlib.Omega.{arith}
use Rattle.theory.specs.Tells.{told-no}
use Rattle.layout.specs.Places.{places-are}
use Rattle.layout.specs.Parts.{Due, due-sizes, due-headed}
use Rattle.formed.specs.Parts.{sized-few, sized-cut, sized-due, sized-formed}
use Rattle.formed.proofs.is_formed.Goals as goal
use Rattle.formed.proofs.is_formed.Goals.{Else-workspace-at}

-- All words that are due are there.
due : (c : Else-workspace-at) → let a = c.args in Due a.v a.n a.workspace.now
due c = let (few, most) = sized-few _ _ _ c.requires in
    record { variables = few; features = most; words = omega (arith, places-are _ _ _ c.places_for-at.ensures, c.if-workspace-at.false) }

pub places_for-at-requires : goal.places_for-at-requires
places_for-at-requires c = sized-few _ _ _ c.requires

pub returns-then-workspace-at : goal.returns-then-workspace-at
returns-then-workspace-at c = told-no (λ f. omega (arith, (sized-due _ _ _ c.requires f).words, places-are _ _ _ c.places_for-at.ensures, c.if-workspace-at.true))

pub sizes-requires : goal.sizes-requires
sizes-requires c = due-sizes (due c)

pub start-requires : goal.start-requires
start-requires c = due-headed (due (goal.at.start-requires c).Else-workspace-at)

pub goal-requires : goal.goal-requires
goal-requires c = due-headed (due (goal.at.goal-requires c).Else-workspace-at)

pub pairs-requires : goal.pairs-requires
pairs-requires c = due-headed (due (goal.at.pairs-requires c).Else-workspace-at)

pub slots-requires : goal.slots-requires
slots-requires c = due (goal.at.slots-requires c).Else-workspace-at

pub is_proper-requires : goal.is_proper-requires
is_proper-requires c = rw (c.sizes.ensures, c.start.ensures, c.goal.ensures, c.pairs.ensures, c.slots.ensures)
    (sized-cut _ _ _ c.requires (due (goal.at.is_proper-requires c).Else-workspace-at).words)

pub returns : goal.returns
returns c = sized-formed _ _ _ c.requires (due (goal.at.returns c).Else-workspace-at).words (λ i h. (c.type_inv.workspace i).fits)
    (rw (c.sizes.ensures, c.start.ensures, c.goal.ensures, c.pairs.ensures, c.slots.ensures)
    at c.is_proper.ensures)

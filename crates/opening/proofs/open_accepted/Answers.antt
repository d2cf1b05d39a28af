-- `open_accepted`: the workspace that is begun, and the rows of both kinds of operators.
use mathlib.Core.Path.{◌≡◌, sym}
use native.Mathlib.Omega.{arith}
use lib.Seq.{length-take-le}
use Rattle.meaning.specs.Workspace.{slots_at, words_due}
use Rattle.layout.specs.Parts.{headed-sizes, room-zeros}
use Rattle.layout.specs.Places.{places-are}
use Rattle.task.specs.Answer.{known-room}
use Rattle.opening.specs.Accepted.{accepted-ready, accepted-opened}
use Rattle.opening.proofs.open_accepted.Goals as goal
use Rattle.opening.proofs.open_accepted.Goals.{After-places_for-places}

due : (p : After-places_for-places) → p.places_for-places.result.end ≡ words_due p.args.header.variables p.args.header.features
due p = (places-are _ _ _ p.places_for-places.ensures).4

slots : (p : After-places_for-places) → p.places_for-places.result.slots ≡ slots_at p.args.header.variables p.args.header.features
slots p = (places-are _ _ _ p.places_for-places.ensures).3

pub slice_bounds-begin-end : goal.slice_bounds-begin-end
slice_bounds-begin-end c = sym (length-take-le _ _ (omega (arith, slots (goal.at.slice_bounds-begin-end c).After-places_for-places, (known-room c.requires.2.accepted).words)))

pub sizes-requires : goal.sizes-requires
sizes-requires c = headed-sizes (known-room c.requires.2.accepted)

pub pairs-requires : goal.pairs-requires
pairs-requires c = known-room c.requires.2.accepted

pub goal-requires : goal.goal-requires
goal-requires c = known-room c.requires.2.accepted

pub add_task-requires : goal.add_task-requires
add_task-requires c = let at = (goal.at.add_task-requires c).After-places_for-places in
    let none = room-zeros _ _ (known-room c.requires.2.accepted).features c.words_for-w.ensures in
    accepted-ready _ _ _ _ c.args.room.now _ _ c.requires.2 _ _ _ (due at) (slots at) c.begin.ensures _ _ _ c.sizes.ensures c.pairs.ensures c.goal.ensures _ _ none none

pub returns : goal.returns
returns c = let at = (goal.at.returns c).After-places_for-places in λ judging old known.
    accepted-opened _ _ _ _ c.args.room.now _ _ known _ _ _ (due at) (slots at) c.begin.ensures _ _ _ c.sizes.ensures c.pairs.ensures c.goal.ensures c.if-room-places.false _
    c.add_task.ensures

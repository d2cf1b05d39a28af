-- `complete`: the parts of the header, and the file that is written from them.
use mathlib.Core.Path.{refl}
use native.Mathlib.Omega.{arith}
use Rattle.theory.specs.Spent.{Bytes}
use Rattle.layout.specs.Parts.{Headed, headed-sizes}
use Rattle.task.specs.Answer.{known-room}
use Rattle.writer.specs.Copied.{lent-behind}
use Rattle.completing.specs.Answer.{at-within, built-parts, built-so}
use Rattle.completing.proofs.complete.Goals as goal
use Rattle.completing.proofs.complete.Goals.{After-pairs, Start}

-- That all words of the header are there, and that the bytes are bytes.
room : (s : Start) → Headed s.args.judged.header.variables s.args.judged.header.features s.args.parts.now
room s = known-room s.requires.1.accepted

small : (c : After-pairs) → Bytes c.args.partial.now
small c i = omega (arith, c.type_inv.partial i)

pub slice_bounds-write_built-count : goal.slice_bounds-write_built-count
slice_bounds-write_built-count c = at-within _ _ _ _ _ _ _ _ _ c.requires.1

pub slice_bounds-write_built-start : goal.slice_bounds-write_built-start
slice_bounds-write_built-start c = omega (arith, at-within _ _ _ _ _ _ _ _ _ c.requires.1)

pub sizes-requires : goal.sizes-requires
sizes-requires c = headed-sizes (room (goal.at.sizes-requires c).Start)

pub start-requires : goal.start-requires
start-requires c = room (goal.at.start-requires c).Start

pub goal-requires : goal.goal-requires
goal-requires c = room (goal.at.goal-requires c).Start

pub pairs-requires : goal.pairs-requires
pairs-requires c = room (goal.at.pairs-requires c).Start

pub write_built-requires : goal.write_built-requires
write_built-requires c = built-parts _ _ _ _ _ _ _ _ _ c.requires.1 _ _ _ _ c.sizes.ensures c.start.ensures c.goal.ensures c.pairs.ensures

pub returns : goal.returns
returns c =
    let a = c.args in
    built-so _ _ _ _ _ _ _ _ _ c.requires.1 _ _ _ _ c.sizes.ensures c.start.ensures c.goal.ensures c.pairs.ensures (small (goal.at.returns c).After-pairs) _ a.room.now _
    (lent-behind a.partial.now _ _ refl) c.write_built.ensures

-- `convert_in`: the parts of the header, and the file that is written from them.
use Rattle.std.proofs.Common.{refl, arith}
use Rattle.meaning.specs.File.{kind_if}
use Rattle.theory.specs.Spent.{Bytes}
use Rattle.layout.specs.Parts.{Headed, headed-sizes}
use Rattle.writer.specs.Copied.{lent-behind}
use Rattle.converting.specs.Answer.{headed, at-within, lent-front, converts-so}
use Rattle.converting.proofs.convert_in.Goals as goal
use Rattle.converting.proofs.convert_in.Goals.{After-pairs, Start}

-- All words of the header are there.
room : (s : Start) → Headed s.args.header.variables s.args.header.features s.args.words.now
room s = headed (kind_if s.args.gapped) s.requires.1

small : (c : After-pairs) → Bytes c.args.task.now
small c i = omega (arith, c.type_inv.task i)

pub slice_bounds-write_task-count : goal.slice_bounds-write_task-count
slice_bounds-write_task-count c = at-within (kind_if c.args.gapped) c.requires.1

pub slice_bounds-write_task-start : goal.slice_bounds-write_task-start
slice_bounds-write_task-start c = omega (arith, at-within (kind_if c.args.gapped) c.requires.1)

pub sizes-requires : goal.sizes-requires
sizes-requires c = headed-sizes (room (goal.at.sizes-requires c).Start)

pub start-requires : goal.start-requires
start-requires c = room (goal.at.start-requires c).Start

pub goal-requires : goal.goal-requires
goal-requires c = room (goal.at.goal-requires c).Start

pub pairs-requires : goal.pairs-requires
pairs-requires c = room (goal.at.pairs-requires c).Start

pub write_task-requires : goal.write_task-requires
write_task-requires c = lent-front (kind_if c.args.gapped) c.requires.1 _ _ _ _ c.sizes.ensures c.start.ensures c.goal.ensures c.pairs.ensures

pub returns : goal.returns
returns c =
    let a = c.args in
    converts-so (kind_if a.gapped) c.requires.1 _ _ _ _ c.sizes.ensures c.start.ensures c.goal.ensures c.pairs.ensures (small (goal.at.returns c).After-pairs) _ a.room.now _
    (lent-behind a.task.now a.header.next a.header.next refl) c.write_task.ensures

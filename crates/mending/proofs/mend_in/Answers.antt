-- `mend_in`: the pairs that are kept, the parts of the header, and the file that is written from them.
use Rattle.std.proofs.Common.{◌≡◌, refl, ◌∙◌, arith, length}
use Rattle.meaning.specs.Workspace.{words_for}
use Rattle.theory.specs.Spent.{Bytes}
use Rattle.layout.specs.Parts.{headed-sizes}
use Rattle.writer.specs.Copied.{lent-behind}
use Rattle.mending.specs.Answer.{headed, at-within, mended-front, mends-so}
use Rattle.mending.proofs.mend_in.Goals as goal
use Rattle.mending.proofs.mend_in.Goals.{After-fill_kept}

-- The bytes are bytes.
small : (c : After-fill_kept) → Bytes c.args.task.now
small c i = omega (arith, c.type_inv.task i)

long : (c : After-fill_kept) → length c.fill_kept.new.kept ≡ words_for c.args.header.features
long c = c.fill_kept.auto.kept ∙ c.requires.1

pub slice_bounds-write_task-count : goal.slice_bounds-write_task-count
slice_bounds-write_task-count c = at-within c.requires.0.1

pub slice_bounds-write_task-start : goal.slice_bounds-write_task-start
slice_bounds-write_task-start c = omega (arith, at-within c.requires.0.1)

pub sizes-requires : goal.sizes-requires
sizes-requires c = headed-sizes (headed c.requires.0.1)

pub start-requires : goal.start-requires
start-requires c = headed c.requires.0.1

pub goal-requires : goal.goal-requires
goal-requires c = headed c.requires.0.1

pub write_task-requires : goal.write_task-requires
write_task-requires c = mended-front c.requires.0.1 _ _ _ c.fill_kept.new.kept c.sizes.ensures c.start.ensures c.goal.ensures (long (goal.at.write_task-requires c).After-fill_kept)

pub returns : goal.returns
returns c =
    let a = c.args in
    mends-so c.requires.0.1 _ _ _ c.fill_kept.new.kept c.sizes.ensures c.start.ensures c.goal.ensures (long (goal.at.returns c).After-fill_kept) (small (goal.at.returns c).After-fill_kept) c.fill_kept.ensures _ c.is_gapped.ensures _ a.room.now _
    (lent-behind a.task.now a.header.next a.header.next refl) c.write_task.ensures

-- `drop_in`: the pairs that are kept, added to the listed ones, leave those that are dropped.
use Rattle.std.proofs.Common.{◌≡◌, sym, ◌∙◌, length}
use Rattle.meaning.specs.Workspace.{words_for}
use Rattle.mending.specs.Answer.{headed, pairs-long, drops-so}
use Rattle.mending.proofs.drop_in.Goals as goal
use Rattle.mending.proofs.drop_in.Goals.{After-fill_kept}

long : (c : After-fill_kept) → length c.fill_kept.new.kept ≡ words_for c.args.header.features
long c = c.fill_kept.auto.kept ∙ c.requires.1

pub pairs-requires : goal.pairs-requires
pairs-requires c = headed c.requires.0.1

pub add-requires : goal.add-requires
add-requires c = long (goal.at.add-requires c).After-fill_kept ∙ sym (pairs-long c.requires.0.1 _ c.pairs.ensures)

pub returns : goal.returns
returns c =
    drops-so c.requires.0.1 c.fill_kept.new.kept _ c.fill_kept.ensures c.pairs.ensures (long (goal.at.returns c).After-fill_kept) _ c.args.room.now _
    c.add.ensures c.weight_file.ensures

-- `fill_kept`: the listed pairs are copied, and what is left of the copy is kept.
use Rattle.std.proofs.Common.{sym, ◌∙◌}
use Rattle.layout.specs.Parts.{headed-sizes}
use Rattle.mending.specs.Answer.{headed, pairs-long, lent-ready, kept_in_lem}
use Rattle.mending.proofs.fill_kept.Goals as goal

pub pairs-requires : goal.pairs-requires
pairs-requires c = headed c.requires.0.1

pub copy-requires : goal.copy-requires
copy-requires c = c.requires.1 ∙ sym (pairs-long c.requires.0.1 _ c.pairs.ensures)

pub sizes-requires : goal.sizes-requires
sizes-requires c = headed-sizes (headed c.requires.0.1)

pub start-requires : goal.start-requires
start-requires c = headed c.requires.0.1

pub keep_largest-requires : goal.keep_largest-requires
keep_largest-requires c = lent-ready c.requires.0.1 _ _ _ c.sizes.ensures c.start.ensures (c.copy.ensures ∙ c.pairs.ensures)

pub returns : goal.returns
returns c = kept_in_lem c.requires.0.1 _ _ _ c.sizes.ensures c.start.ensures (c.copy.ensures ∙ c.pairs.ensures)
    c.keep_largest.new.pairs c.keep_largest.ensures

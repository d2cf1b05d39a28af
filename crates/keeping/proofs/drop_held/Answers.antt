-- `drop_held`: what is unclosed under the state as an operator is taken out.
use Rattle.std.proofs.Common.{arith, ◌∙◌, ◌≤◌}
use Rattle.meaning.specs.Limits.{most_atoms}
use Rattle.meaning.specs.Feature.{atoms}
use Rattle.meaning.specs.Workspace.{words_for}
use Rattle.numbering.specs.Sizes.{atoms-most}
use Rattle.keeping.specs.Standing.{held-ready, held-possible}
use Rattle.keeping.specs.Keep.{held_out}
use Rattle.keeping.proofs.drop_held.Goals as goal

pub drop_unclosed-requires : goal.drop_unclosed-requires
drop_unclosed-requires c = let (listed, full) = c.requires in let made = c.entries.ensures ∙ c.standing-operator.ensures.1 in let room : atoms c.args.sizes.now ≤ 4096 = omega (arith, atoms-most _ listed.limits) in
    (held-ready _ _ _ _ listed full made, held-possible _ _ _ _ listed full made (words_for most_atoms) room, room)

pub returns : goal.returns
returns c = held_out _ _ _ _ _ _ _ _ c.requires.1 (c.entries.ensures ∙ c.standing-operator.ensures.1) c.drop_unclosed.ensures

-- `words::count`: the ones of the words are the members (`ones-members`), and so few that their sum fits.
use Rattle.std.proofs.Common.{◌*◌, ◌∙◌, arith, rules, length}
use Rattle.std.specs.Int.Count.{ones}
use Rattle.std.proofs.lemmas.Iterator.{YieldsList-from_slice, YieldsList-from_map}
use Rattle.std.proofs.lemmas.Iterator.Consumers.{sum_by_from_yields_List, fits_by_from_yields_list}
use Rattle.meaning.specs.Limits.{word_bits}
use Rattle.meaning.specs.Workspace.{has}
use Rattle.words.specs.Members.{members-few, ones-members}
use Rattle.words.proofs.count.Goals as goal

pub sum-requires-clause-fits : goal.sum-requires-clause-fits
sum-requires-clause-fits c =
    let words = c.args.words.now in
    let e = ones-members words (λ i k. (c.type_inv.words i).fits) in
    fits_by_from_yields_list ones words c.map.result _ (YieldsList-from_map _ ones (YieldsList-from_slice words cc) c.map.ensures.closure (λ x r q k. search rules)) (omega (arith, e, members-few (has words) (word_bits * length words), c.requires))

pub returns : goal.returns
returns c =
    let words = c.args.words.now in
    sum_by_from_yields_List ones words c.map.result _ c.sum.ensures.ran (YieldsList-from_map _ ones (YieldsList-from_slice words cc) c.map.ensures.closure (λ x r q k. search rules)) ∙ ones-members words (λ i k. (c.type_inv.words i).fits)

-- `count_places` sums a 1 for each place that holds 1, and so few that their sum fits.
use Rattle.std.proofs.Common.{ℕ, ◌∙◌, arith, rules, cond}
use Rattle.std.specs.Prelude.{eqb}
use Rattle.std.proofs.lemmas.Iterator.{YieldsList-from_slice, YieldsList-from_map}
use Rattle.std.proofs.lemmas.Iterator.Consumers.{sum_by_from_yields_List, fits_by_from_yields_list}
use Rattle.std.proofs.lemmas.List.Sums.{count_by-le-length}
use Rattle.sliding.specs.Counts.{places-counted}
use Rattle.sliding.proofs.count_places.Goals as goal

-- What a place adds.
abbrev hit : ℕ → ℕ
hit mark = cond (eqb mark 1) 1 0

pub sum-requires-clause-fits : goal.sum-requires-clause-fits
sum-requires-clause-fits c =
    let near = c.args.near.now in
    fits_by_from_yields_list hit near c.map.result _ (YieldsList-from_map _ hit (YieldsList-from_slice near cc) c.map.ensures.closure (λ x r q k. search rules)) (omega (arith, count_by-le-length (λ mark. eqb mark 1) near))

pub returns : goal.returns
returns c =
    let near = c.args.near.now in
    sum_by_from_yields_List hit near c.map.result _ c.sum.ensures.ran (YieldsList-from_map _ hit (YieldsList-from_slice near cc) c.map.ensures.closure (λ x r q k. search rules)) ∙ places-counted near

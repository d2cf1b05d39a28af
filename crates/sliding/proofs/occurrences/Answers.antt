-- `occurrences` sums a 1 for each element that is the label, and so few that their sum fits.
use Rattle.std.proofs.Common.{ℕ, ◌∙◌, arith, rules, cond}
use Rattle.std.specs.Prelude.{eqb}
use Rattle.std.proofs.lemmas.Iterator.{YieldsList-from_slice, YieldsList-from_map}
use Rattle.std.proofs.lemmas.Iterator.Consumers.{sum_by_from_yields_List, fits_by_from_yields_list}
use Rattle.std.proofs.lemmas.List.Sums.{count_by-le-length}
use Rattle.sliding.specs.Counts.{occurrences-counted}
use Rattle.sliding.proofs.occurrences.Goals as goal

-- What an element adds.
abbrev hit : ℕ → ℕ → ℕ
hit label other = cond (eqb other label) 1 0

pub sum-requires-clause-fits : goal.sum-requires-clause-fits
sum-requires-clause-fits c =
    let a = c.args in let labels = a.labels.now in
    fits_by_from_yields_list (hit a.label) labels c.map.result _ (YieldsList-from_map _ (hit a.label) (YieldsList-from_slice labels cc) c.map.ensures.closure (λ x r q k. search rules)) (omega (arith, count_by-le-length (λ other. eqb other a.label) labels))

pub returns : goal.returns
returns c =
    let a = c.args in let labels = a.labels.now in
    sum_by_from_yields_List (hit a.label) labels c.map.result _ c.sum.ensures.ran (YieldsList-from_map _ (hit a.label) (YieldsList-from_slice labels cc) c.map.ensures.closure (λ x r q k. search rules)) ∙ occurrences-counted a.label labels

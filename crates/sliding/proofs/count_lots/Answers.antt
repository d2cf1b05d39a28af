-- `count_lots` counts the labels that occur.
use Prim.Native.Nat.{◌-◌}
use mathlib.Core.Path.{refl, ◌∙◌}
use borrow.Author.Tests.{tests}
use lib.ListN.{length}
use Rattle.std.proofs.Common.{rules}
use Rattle.std.proofs.lemmas.Iterator.{YieldsList-from_range}
use Rattle.std.proofs.lemmas.Iterator.Consumers.{YieldsList-from_filter, count_from_yields_List}
use Rattle.std.proofs.lemmas.List.Sums.{length-filter}
use Rattle.meaning.specs.Bay.{occurs_in}
use Rattle.sliding.specs.Counts.{range-counted}
use Rattle.sliding.proofs.count_lots.Goals as goal

pub returns : goal.returns
returns c =
    let start = c.args.start.now in
    let n = length start in
    count_from_yields_List c.filter.result _ c.count.ensures.ran
    (YieldsList-from_filter _ (occurs_in start) (YieldsList-from_range 1 n (n - 1) (cc) refl) c.filter.ensures.closure (λ x b q k. search (rules, tests)))
    ∙ length-filter (occurs_in start) _ ∙ range-counted 1 (n - 1) (occurs_in start)

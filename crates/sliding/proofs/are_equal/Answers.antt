-- `are_equal` asks label by label.
use mathlib.Core.Path.{refl}
use native.Mathlib.Nat.{sub-zero}
use borrow.Author.Tests.{tests}
use lib.ListN.{length}
use Rattle.std.proofs.Common.{rules}
use Rattle.std.proofs.lemmas.Iterator.{YieldsList-from_range, cases_from_all}
use Rattle.sliding.specs.Labels.{Alike, Unlike, equal-told}
use Rattle.sliding.proofs.are_equal.Goals as goal

pub returns : goal.returns
returns c =
    let start = c.args.start.now in
    let goal = c.args.goal.now in
    let n = length start in
    equal-told start goal n _ (cases_from_all _ _ _ (Alike start goal) (Unlike start goal) c.all.ensures.ran (YieldsList-from_range 0 n n refl (sub-zero n)) (λ x q k. search (rules, tests)) (λ x q k. search (rules, tests)))

-- `next_value`: the first that is kept of the values from x on.
use Rattle.std.specs.Prelude.{◌≡◌, refl, true, false}
use Rattle.std.proofs.Common.{rules, arith}
use Rattle.std.proofs.lemmas.Iterator.{YieldsList-from_range, first_from_find}
use borrow.Author.Tests.{tests}
use Rattle.meaning.specs.Workspace.{has}
use Rattle.forgetting.specs.Out.{out_by}
use Rattle.forgetting.specs.Kept.{found-first}
use Rattle.forgetting.proofs.next_value.Goals as goal

pub returns : goal.returns
returns c = let a = c.args in let out = out_by a.sizes.now (has a.pairs.now) a.goal.now a.lean in
    found-first a.sizes.now out a.i a.x _ c.find.result (omega arith) (omega arith)
    (first_from_find _ _ c.find.result (λ y. out a.i y ≡ false) (λ y. out a.i y ≡ true) c.find.ensures.ran (YieldsList-from_range a.x _ _ refl refl) (λ y q k. search (rules, tests)) (λ y q k. search (rules, tests)))

-- `are_marks` asks mark by mark.
use Rattle.std.proofs.Common.{rules, leb}
use borrow.Author.Tests.{tests}
use Rattle.std.proofs.lemmas.Iterator.{YieldsList-from_slice}
use Rattle.std.proofs.lemmas.Iterator.Search.{all_from_yields_List}
use Rattle.silencing.proofs.are_marks.Goals as goal

pub returns : goal.returns
returns c = all_from_yields_List (λ m. leb m 1) _ _ _ c.all.ensures.ran (YieldsList-from_slice c.args.marks.now (cc)) (λ x b q k. search (rules, tests))

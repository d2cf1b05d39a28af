-- `holds`: no value is found to be paired with an earlier one, and nothing is held where no pair is listed.
use Rattle.std.proofs.Common.{rules, tests, ap, sym, ◌∙◌, not, length}
use Rattle.meaning.specs.Sets.{some}
use Rattle.meaning.specs.Task.{value}
use Rattle.meaning.specs.Workspace.{has}
use Rattle.meaning.specs.Pair.{paired, holds}
use Rattle.pairs.specs.None.{none-held}
use Rattle.pairs.proofs.Chains.{any-below}
use Rattle.pairs.proofs.holds.Goals as goal

pub returns-then-not-is_empty : goal.returns-then-not-is_empty
unfolding holds
returns-then-not-is_empty c = let a = c.args in
    any-below (λ j. some j (λ i. paired a.sizes.now (has a.pairs.now) i (value a.state.now i) j (value a.state.now j))) (length a.sizes.now) c.any.ensures.ran (cc) (λ x b q k. search (rules, tests))

pub returns-else-not-is_empty : goal.returns-else-not-is_empty
returns-else-not-is_empty c = ap not c.if-not-is_empty.false ∙ sym (none-held _ (c.is_empty.ensures.yes c.if-not-is_empty.false) _ _)

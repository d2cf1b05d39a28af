-- `is_unnamed`: none of the variables is found to be so, whatever the before and after values are.
use Rattle.std.proofs.Common.{rules, tests, length, cond, not, ◌&&◌}
use Rattle.meaning.specs.Task.{names}
use Rattle.meaning.specs.Workspace.{has}
use Rattle.operator.specs.Entries.{entries_in}
use Rattle.pairs.proofs.Chains.{any-below}
use Rattle.pairs.specs.Judge.{valued, unnamed_in}
use Rattle.pairs.proofs.is_unnamed.Goals as goal

pub returns : goal.returns
unfolding unnamed_in
returns c = λ befores afters. let a = c.args in let v = λ (u : _). valued a.sizes.now (has a.set.now) u in
    any-below (λ u. not (names (entries_in a.variables.now befores afters) u) && cond a.asked (v u) (not (v u))) (length a.sizes.now) c.any.ensures.ran (cc) (λ x b q k. search (rules, tests))

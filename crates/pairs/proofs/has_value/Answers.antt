-- `has_value`: the atom of each value is within the words, and none is found to be in.
use Prim.Native.Nat.{◌+◌}
use Rattle.std.proofs.Common.{rules, ◌∙◌, tests}
use Rattle.meaning.specs.Workspace.{has}
use Rattle.numbering.specs.Sizes.{limits-small}
use Rattle.pairs.proofs.Chains.{any-below, calls-below}
use Rattle.pairs.specs.Ready.{value-at}
use Rattle.pairs.specs.Judge.{valued-from}
use Rattle.pairs.proofs.has_value.Goals as goal

pub single-start-requires : goal.single-start-requires
single-start-requires c = let (h, l, r) = c.requires in (limits-small _ h, l, (h.each _ l).0)

pub any-requires-clause-callable : goal.any-requires-clause-callable
any-requires-clause-callable c = let (h, l, r) = c.requires in calls-below c.size.result (cc) (λ x q k. search (rules, tests))
    (λ x j. let at = value-at _ _ c.args.u x _ _ h r c.single-start.ensures c.size.ensures j in let small = at.small in let room = at.room in search rules)

pub returns : goal.returns
returns c = let a = c.args in
    any-below (λ y. has a.set.now (c.single-start.result + y)) c.size.result c.any.ensures.ran (cc) (λ x b q k. search (rules, tests))
    ∙ valued-from _ (has a.set.now) _ _ _ c.single-start.ensures c.size.ensures

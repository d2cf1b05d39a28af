-- `is_possible`: the entry at each place is apart from the variable, and none is found to be paired.
use Rattle.std.proofs.Common.{rules, ap, tests, not, length, ◌∙◌}
use Rattle.meaning.specs.Pair.{paired, possible}
use Rattle.meaning.specs.Task.{Entry}
use Rattle.meaning.specs.Workspace.{has}
use Rattle.theory.specs.Walk.{entry_at}
use Rattle.pairs.proofs.Chains.{any-below, any-entry, calls-below}
use Rattle.pairs.specs.Ready.{ready-listed, entry-apart}
use Rattle.pairs.proofs.is_possible.Goals as goal

pub any-requires-clause-callable : goal.any-requires-clause-callable
any-requires-clause-callable c = let (ready, free, l, v) = c.requires in calls-below (length c.args.entries.now) (cc) (λ x q k. search (rules, tests))
    (λ k h. let a = entry-apart _ _ k c.args.u ready.entries h free in let listed = ready-listed ready in search rules)

pub returns : goal.returns
unfolding possible
returns c = let a = c.args in
    let p = λ (e : Entry). paired a.sizes.now (has a.pairs.now) e.variable e.before a.u a.y in
    ap not (any-below (λ k. p (entry_at a.entries.now k)) (length a.entries.now) c.any.ensures.ran (cc) (λ x b q k. search (rules, tests)) ∙ any-entry p a.entries.now)

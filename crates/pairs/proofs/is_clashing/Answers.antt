-- `is_clashing`: the entries before each place are ready, and each before atom is found to be possible beside those before it.
use Rattle.std.proofs.Common.{rules, tests, length, take, not, ap, sym, ◌∙◌}
use Rattle.meaning.specs.Workspace.{has}
use Rattle.meaning.specs.Pair.{possible}
use Rattle.theory.specs.Walk.{entry_at}
use Rattle.pairs.specs.None.{none-clashing}
use Rattle.pairs.specs.Judge.{earlier-ready, clashing-places}
use Rattle.pairs.proofs.Chains.{any-below, calls-below}
use Rattle.pairs.proofs.is_clashing.Goals as goal

pub any-requires-clause-callable : goal.any-requires-clause-callable
any-requires-clause-callable c = calls-below (length c.args.entries.now) (cc) (λ x q k. search (rules, tests))
    (λ l h. let earlier = earlier-ready _ _ _ l c.requires h in search rules)

pub returns-then-not-is_empty : goal.returns-then-not-is_empty
returns-then-not-is_empty c = let a = c.args in
    any-below (λ l. not (possible a.sizes.now (has a.pairs.now) (take l a.entries.now) (entry_at a.entries.now l).variable (entry_at a.entries.now l).before)) (length a.entries.now)
    c.any.ensures.ran (cc) (λ x b q k. search (rules, tests)) ∙ clashing-places _ _ _

pub returns-else-not-is_empty : goal.returns-else-not-is_empty
returns-else-not-is_empty c = ap not c.if-not-is_empty.false ∙ sym (none-clashing _ (c.is_empty.ensures.yes c.if-not-is_empty.false) _ _)

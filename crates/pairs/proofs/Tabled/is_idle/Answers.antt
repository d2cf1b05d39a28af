-- `is_idle`: by two before atoms, or by the table.
use mathlib.Core.Path.{ap, sym, ◌∙◌}
use mathlib.Core.Bool.{false}
use Rattle.meaning.specs.Workspace.{has}
use Rattle.pairs.specs.Judge.{unnamed_in, idle-clashing, idle-stuck}
use Rattle.pairs.proofs.Tabled.is_idle.Goals as goal

pub returns-then-is_clashing : goal.returns-then-is_clashing
returns-then-is_clashing c = c.if-is_clashing.true ∙ sym (idle-clashing _ _ _ (sym c.is_clashing.ensures ∙ c.if-is_clashing.true))

pub returns-else-is_clashing : goal.returns-else-is_clashing
returns-else-is_clashing c = let t = c.args.self in let (befores, afters, are) = c.variables.ensures in
    c.is_unnamed.ensures befores afters ∙ ap (λ o. unnamed_in t.sizes.now (has t.possible.now) o false) (sym are)
    ∙ idle-stuck _ _ _ _ t.held (sym c.is_clashing.ensures ∙ c.if-is_clashing.false)

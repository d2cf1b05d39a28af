-- `is_closed`: an idle operator closes every list; for another one the first unclosed pair decides.
use mathlib.Core.Path.{sym, ◌∙◌}
use Rattle.pairs.specs.Judge.{closed-idle}
use Rattle.pairs.specs.Walk.{closed-found}
use Rattle.pairs.proofs.Tabled.is_closed.Goals as goal

pub returns-then-is_idle : goal.returns-then-is_idle
returns-then-is_idle c = c.if-is_idle.true ∙ sym (closed-idle _ _ _ (sym c.is_idle.ensures ∙ c.if-is_idle.true))

pub returns-else-is_idle : goal.returns-else-is_idle
returns-else-is_idle c = let (reached, told) = c.first_unclosed.ensures in
    closed-found _ _ _ c.args.self.ready.entries _ _ c.is_none.ensures (sym c.is_idle.ensures ∙ c.if-is_idle.false) reached told

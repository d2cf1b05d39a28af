-- `next_kept`: no value of the variable at hand is kept from `from` on, or one is found.
use Rattle.std.proofs.Common.{arith, ◌∙◌}
use Rattle.forgetting.specs.Kept.{passed-none, passed-all}
use Rattle.forgetting.proofs.next_kept.Goals as goal

pub loop-variable-preserved : goal.loop-variable-preserved
loop-variable-preserved c = (omega arith, passed-none _ _ _ _ c.in_default.ensures ∙ c.loop-variable.invariant.1)

pub returns : goal.returns
returns c = passed-all _ _ _ _ _ _ (omega arith) c.loop-variable.invariant.0 c.loop-variable.invariant.1

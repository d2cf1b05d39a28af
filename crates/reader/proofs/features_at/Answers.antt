-- `features_at` meets its contract: after each turn the features that are still to be read are toggled in the words, and leave what all features would.
use Rattle.std.proofs.lemmas.Result.{err_from_is_err_and}
use mathlib.Core.Path.{sym, ◌∙◌}
use native.Mathlib.Omega.{arith}
use Rattle.reader.specs.Answer.{placed-next, placed-fault}
use Rattle.reader.specs.Lists.{list-fault, first-feature, features-more, features-none, feature-below}
use Rattle.reader.proofs.features_at.Goals as goal

pub toggle-requires : goal.toggle-requires
toggle-requires c = omega (arith, feature-below _ _ _ _ _ _ _ _ (sym c.in_ok-feature.ensures))

pub overflow_add-least : goal.overflow_add-least
overflow_add-least c = omega (arith, feature-below _ _ _ _ _ _ _ _ (sym c.in_ok-feature.ensures))

pub returns-in_err-feature : goal.returns-in_err-feature
returns-in_err-feature c = let p = err_from_is_err_and c.from_residual.result c.from_residual.ensures.1 in rw (p.1, p.2) (
    placed-fault _ _ _ _ (c.loop.invariant.1 ∙ list-fault (first-feature _ _ _ _ _ _ (omega arith)) _ _ _ _ _ (sym c.in_err-feature.ensures)))

pub loop-preserved : goal.loop-preserved
loop-preserved c = (
  omega arith,
  rw c.toggle.ensures
      (c.loop.invariant.1 ∙ features-more _ _ _ _ _ _ _ _ _ _ _ (omega arith) (sym c.in_ok-feature.ensures)),
)

pub returns : goal.returns
returns c = placed-next _ _ _ _ (c.loop.invariant.1 ∙ features-none _ _ _ _ _ _ _ _ _ (omega arith))

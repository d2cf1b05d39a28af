-- `do_ends_differ`: the row is the difference of the ends, which the weights meet oddly where the parities differ.
use mathlib.Core.Path.{◌∙◌}
use Rattle.checking.specs.Answer.{ends-odd}
use Rattle.checking.proofs.do_ends_differ.Goals as goal

pub returns : goal.returns
returns c = c.odd_shared.ensures ∙ ends-odd _ _ _ _ _ c.requires.3 c.fill_difference.ensures

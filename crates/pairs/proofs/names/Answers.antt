-- `names`: the variable stands among them.
use mathlib.Core.Path.{◌∙◌}
use Rattle.operator.specs.Entries.{names-listed}
use Rattle.pairs.proofs.names.Goals as goal

pub returns : goal.returns
returns c = λ befores afters. c.contains.ensures.value ∙ names-listed _ befores afters _

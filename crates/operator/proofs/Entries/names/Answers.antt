-- `names`: a variable is named where it has an entry.
use Rattle.std.proofs.Common.{◌∙◌}
use Rattle.operator.specs.Entries.{named-names}
use Rattle.operator.proofs.Entries.names.Goals as goal

pub returns : goal.returns
returns c = c.is_some.ensures ∙ named-names _ _ _ c.named.ensures

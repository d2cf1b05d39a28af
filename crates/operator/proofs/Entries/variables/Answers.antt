-- `variables`: the other two slices hold the values.
use Rattle.std.proofs.Common.{sym}
use Rattle.operator.proofs.Entries.variables.Goals as goal

pub returns : goal.returns
returns c = (_, _, sym c.self.view_is)

-- `len`: the entries are as many as the variables.
use Rattle.std.proofs.Common.{sym, ap, ◌∙◌, length}
use Rattle.operator.specs.Entries.{length-held}
use Rattle.operator.proofs.Entries.len.Goals as goal

pub returns : goal.returns
returns c = sym (length-held _ _ _ _) ∙ ap length c.self.view_is

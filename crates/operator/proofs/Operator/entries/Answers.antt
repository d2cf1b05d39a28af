-- `entries`: what a record holds are the entries in the first parts of its arrays.
use Rattle.std.proofs.Common.{sym, arith, ◌∙◌}
use Rattle.operator.specs.Entries.{held-parts}
use Rattle.operator.proofs.Operator.entries.Goals as goal

pub returns : goal.returns
returns c = c.new.ensures ∙ sym (held-parts _ _ _ _ (omega arith))

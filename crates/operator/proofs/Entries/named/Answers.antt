-- `named`: none of the entries so far is the variable's.
use Rattle.std.proofs.Common.{arith}
use Rattle.operator.proofs.Entries.named.Goals as goal

pub returns-then-entry-u : goal.returns-then-entry-u
returns-then-entry-u c = (c.loop-k.k, omega arith, c.at-entry.ensures, c.if-entry-u.true, c.loop-k.invariant)

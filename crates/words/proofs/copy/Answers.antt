-- `words::copy`: the loop writes the other list from the front (`Written`).
use Rattle.std.proofs.Common.{arith, refl}
use Rattle.words.specs.Written.{written_next, written-done}
use Rattle.words.proofs.copy.Goals as goal

pub loop-i-preserved : goal.loop-i-preserved
loop-i-preserved c = written_next _ _ _ _ _ c.requires c.loop-i.invariant (omega arith) refl

pub returns : goal.returns
returns c = written-done _ _ _ _ c.requires c.loop-i.invariant (omega arith)

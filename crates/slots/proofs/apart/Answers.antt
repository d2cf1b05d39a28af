-- `slots::apart`: what is shared above i is gathered in one word (`Gathered`).
use Rattle.std.proofs.Common.{arith}
use Rattle.slots.specs.Shape.{gathered-first, gathered_next, gathered-done}
use Rattle.slots.proofs.apart.Goals as goal

pub loop-j-init : goal.loop-j-init
loop-j-init c = gathered-first _ _ (λ i h. (c.type_inv.a i).fits) (λ i h. (c.type_inv.b i).fits) c.args.i (omega arith) (omega arith)

pub loop-j-preserved : goal.loop-j-preserved
loop-j-preserved c = gathered_next _ _ (λ i h. (c.type_inv.a i).fits) (λ i h. (c.type_inv.b i).fits) c.args.i c.loop-j.j c.loop-j.common (omega arith) (omega arith) (omega arith) c.loop-j.invariant

pub returns : goal.returns
returns c = gathered-done _ _ (λ i h. (c.type_inv.a i).fits) (λ i h. (c.type_inv.b i).fits) c.args.i c.loop-j.j c.loop-j.common c.loop-j-test.false c.loop-j.invariant

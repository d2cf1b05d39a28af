-- `slots::add_from`: added from the word of p on, the words are those of `summed`.
use Prim.Native.Nat.{◌/◌}
use native.Mathlib.Omega.{arith}
use Rattle.slots.specs.Change.{added-from}
use Rattle.slots.proofs.add_from.Goals as goal

pub returns : goal.returns
returns c = let a = c.args in
    rw c.add.ensures (added-from (a.p / 64) a.sum.now a.set.now
    (λ i h. (c.type_inv.set i).fits) c.requires.0 (λ f h. c.requires.2.low f (omega arith)))

-- `slots::apart`: what is shared above i is gathered in one word (`Gathered`).
use Rattle.slots.specs.Shape.{Gathered}
use Rattle.slots.proofs.apart.Given as goal

abbrev pub invariant-loop-j : goal.invariant-loop-j
invariant-loop-j l = Gathered l.a l.b l.i l.j l.common

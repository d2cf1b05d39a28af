-- `places`: each turn copies one more place.
use mathlib.Core.Path.{refl}
use Rattle.std.proofs.Common.{rules}
use native.Mathlib.Omega.{arith}
use lib.ListN.{length-set}
use Rattle.florumeja.specs.Places.{place-copied}
use Rattle.florumeja.proofs.places.Goals as goal

pub loop-i-init : goal.loop-i-init
loop-i-init c = (refl, λ i l. absurd (omega arith))

pub loop-i-preserved : goal.loop-i-preserved
loop-i-preserved c = let l = c.loop-i in
    (simp length-set l.invariant.0, place-copied l.copied c.args.words.now l.i _ (omega arith) l.invariant.1 (search rules))

pub returns : goal.returns
returns c = λ i l. c.loop-i.invariant.1 i (omega arith)

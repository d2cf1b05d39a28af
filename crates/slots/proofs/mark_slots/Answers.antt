-- `slots::mark_slots`: the slots below i that have their features are collected (`Collected`).
use Rattle.std.proofs.Common.{◌≡◌, arith, refl, length}
use Rattle.slots.specs.Area.{slot-in}
use Rattle.slots.specs.Find.{collected-first, collected-next}
use Rattle.slots.proofs.mark_slots.Goals as goal

pub loop-i-init : goal.loop-i-init
loop-i-init g c = collected-first _ _ _ (λ f. refl)

pub mark-requires : goal.mark-requires
mark-requires g c =
    let m = c.requires.1.1.1 _ _ c.loop-i-test.true c.feature.ensures in
    omega (arith, m, c.requires.1.0, slot-in (length c.args.set.now) c.loop-i.i c.args.count c.loop-i-test.true)

pub loop-i-preserved : goal.loop-i-preserved
loop-i-preserved g c =
    let e : c.feature.result ≡ g.of c.loop-i.i = (c.requires.1.1.1 _ _ c.loop-i-test.true c.feature.ensures).0 in
    collected-next _ _ _ c.loop-i.set _ (omega (arith, c.requires.1.0)) (rw e at c.mark.ensures) c.loop-i.invariant

-- `write_slides` writes the slide of a label at each turn: those of the labels left are what remains.
use Prim.Native.Nat.{◌+◌, ◌-◌}
use mathlib.Core.Path.{refl}
use native.Mathlib.Omega.{arith}
use lib.ListN.{length}
use borrow.Author.Tests.{eq-eqb, ne_eqb}
use Rattle.sliding.specs.Parts.{slide_bytes}
use Rattle.sliding.specs.Turns.{turns-begin, turn-fits, turn-done, turns-done, nothing-due}
use Rattle.sliding.specs.Operators.{slides-beside, no-slides}
use Rattle.sliding.proofs.write_slides.Goals as goal
use Rattle.sliding.proofs.write_slides.Goals.{Start}
use Rattle.sliding.proofs.write_slides.Invariants.{one_lot}

pub returns-then-near-p-ne1 : goal.returns-then-near-p-ne1
returns-then-near-p-ne1 c =
    let a = c.args in
    let told = nothing-due a.room.now a.at (slide_bytes a.near.now a.start.now a.p a.q) c.requires.3
    (no-slides a.near.now a.start.now a.p a.q (ne_eqb _ _ c.if-near-p-ne1.true)) in
    record { after = told.0; written = told.1 }

pub loop-label-init : goal.loop-label-init
loop-label-init c =
    let a = c.args in
    (0, refl, turns-begin _ _ _ (length a.start.now - 1) (one_lot a.start.now a.p a.q) (slides-beside a.near.now a.start.now a.p a.q (eq-eqb _ _ c.if-near-p-ne1.false)) c.requires.3)

pub write_lot-next-requires : goal.write_lot-next-requires
write_lot-next-requires c =
    let pre = c.requires in
    let few = pre.0.most in
    let (k, e, turns) = c.loop-label.invariant in
    let fits = turn-fits turns (omega (arith, e, c.loop-label-test.true)) in
    (omega (arith, pre.1), omega (arith, pre.2), omega (arith, c.loop-label-test.true), rw e fits)

pub loop-label-preserved : goal.loop-label-preserved
loop-label-preserved c =
    let (k, e, turns) = c.loop-label.invariant in
    let told = rw e at c.write_lot-next.ensures in
    (k + 1, omega (arith, e), turn-done turns _ _ (omega (arith, e, c.loop-label-test.true)) told.after told.written)

pub returns : goal.returns
returns c = let (k, e, turns) = c.loop-label.invariant in let told = turns-done turns (omega (arith, c.loop-label-test.false)) in record { after = told.0; written = told.1 }

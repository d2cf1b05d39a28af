-- `write_gap` writes the slides of two slots at each turn: those of the slots left are what remains.
use mathlib.Core.Path.{refl}
use lib.ListN.{length}
use Rattle.sliding.specs.Parts.{slide_bytes, gap_bytes}
use Rattle.sliding.specs.Turns.{turns-begin, turn-fits, turn-done, turns-done}
use Rattle.sliding.proofs.write_gap.Goals as goal

pub loop-q-init : goal.loop-q-init
unfolding gap_bytes
loop-q-init c =
    let a = c.args in
    turns-begin _ _ _ (length a.start.now) (slide_bytes a.near.now a.start.now a.p) refl c.requires.2

pub write_slides-next-requires : goal.write_slides-next-requires
write_slides-next-requires c =
    let pre = c.requires in
    let taken = c.loop-q-test.true in
    (pre.0, pre.1, taken, turn-fits c.loop-q.invariant taken)

pub loop-q-preserved : goal.loop-q-preserved
loop-q-preserved c =
    turn-done c.loop-q.invariant _ _ c.loop-q-test.true c.write_slides-next.ensures.after c.write_slides-next.ensures.written

pub returns : goal.returns
returns c = let told = turns-done c.loop-q.invariant c.loop-q-test.false in record { after = told.0; written = told.1 }

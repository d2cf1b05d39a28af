-- `write_walk` writes the slides into a gap at each turn: those of the gaps left are what remains.
use mathlib.Core.Path.{refl}
use lib.ListN.{length}
use Rattle.sliding.specs.Parts.{gap_bytes, walk_bytes}
use Rattle.sliding.specs.Turns.{turns-begin, turn-fits, turn-done, turns-done}
use Rattle.sliding.proofs.write_walk.Goals as goal

pub loop-p-init : goal.loop-p-init
unfolding walk_bytes
loop-p-init c =
    let a = c.args in
    turns-begin _ _ _ (length a.start.now) (gap_bytes a.near.now a.start.now) refl c.requires.1

pub write_gap-next-requires : goal.write_gap-next-requires
write_gap-next-requires c =
    let taken = c.loop-p-test.true in
    (c.requires.0, taken, turn-fits c.loop-p.invariant taken)

pub loop-p-preserved : goal.loop-p-preserved
loop-p-preserved c =
    turn-done c.loop-p.invariant _ _ c.loop-p-test.true c.write_gap-next.ensures.after c.write_gap-next.ensures.written

pub returns : goal.returns
returns c = let told = turns-done c.loop-p.invariant c.loop-p-test.false in record { after = told.0; written = told.1 }

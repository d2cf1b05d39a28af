-- `write_walk` writes the slides into a gap at each turn: those of the gaps left are what remains.
use lib.ListN.{length}
use Rattle.sliding.specs.Parts.{gap_bytes, walk_bytes}
use Rattle.sliding.specs.Turns.{Turns}
use Rattle.sliding.proofs.write_walk.Given as goal

abbrev pub invariant-loop-p : goal.invariant-loop-p
invariant-loop-p l = Turns l.initial.room l.at (walk_bytes l.near l.start) (length l.start) (gap_bytes l.near l.start) l.room l.next l.p

-- `write_gap` writes the slides of two slots at each turn: those of the slots left are what remains.
use lib.ListN.{length}
use Rattle.sliding.specs.Parts.{slide_bytes, gap_bytes}
use Rattle.sliding.specs.Turns.{Turns}
use Rattle.sliding.proofs.write_gap.Given as goal

abbrev pub invariant-loop-q : goal.invariant-loop-q
invariant-loop-q l = Turns l.initial.room l.at (gap_bytes l.near l.start l.p) (length l.start) (slide_bytes l.near l.start l.p) l.room l.next l.q

-- `fill_possible`: after u turns the words hold the possible atoms of the first u variables; a named variable adds nothing.
use lib.ListN.{length}
use Rattle.meaning.specs.Workspace.{has}
use Rattle.pairs.specs.Fill.{Filled}
use Rattle.pairs.proofs.fill_possible.Given as goal

abbrev pub invariant-loop-u : goal.invariant-loop-u
invariant-loop-u l = Filled l.sizes (has l.pairs) l.entries (length l.initial.possible) l.u l.possible

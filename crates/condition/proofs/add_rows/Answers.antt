-- `add_rows`: the local arrays have room for the two sets of indices; nothing is in them.
use native.Mathlib.Omega.{arith}
use lib.ListN.{length-take}
use Rattle.layout.specs.Parts.{room-zeros}
use Rattle.condition.specs.Slotted.{opened-due}
use Rattle.condition.proofs.add_rows.Goals as goal

pub add_rows_with-requires : goal.add_rows_with-requires
add_rows_with-requires c = let few = (opened-due c.requires).features in (c.requires, simp length-take (omega (arith, c.words_for-w.ensures, few)), room-zeros _ c.args.n few c.words_for-w.ensures)

-- `add_rows_later`: the local arrays have room for the sizes, the table (`atoms-most`), the base state and a row.
use native.Mathlib.Omega.{arith}
use lib.ListN.{length-take}
use Rattle.numbering.specs.Sizes.{atoms-most}
use Rattle.layout.specs.Parts.{sizes_part}
use Rattle.condition.specs.Later.{kept-due}
use Rattle.condition.proofs.add_rows_later.Goals as goal

pub insert_condition-requires : goal.insert_condition-requires
insert_condition-requires c = let due = kept-due c.requires.0 c.requires.1 in (
  c.requires.0,
  c.requires.1,
  simp length-take (omega (arith, due.variables)),
  omega (arith, atoms-most (sizes_part c.args.v c.args.workspace.now) c.requires.1.ready.limits),
  simp length-take (omega (arith, due.variables)),
  simp length-take (omega (arith, c.words_for-w.ensures, due.features)),
)

-- `is_allowed`: the local arrays have room for the table (`atoms-most`), the base state and a row.
use native.Mathlib.Omega.{arith}
use lib.ListN.{length-take}
use Rattle.numbering.specs.Sizes.{atoms-most}
use Rattle.condition.proofs.is_allowed.Goals as goal

pub meets_rows-requires : goal.meets_rows-requires
meets_rows-requires c = let (r, e, past) = c.requires in (
  r,
  e,
  past,
  omega (arith, atoms-most c.args.sizes.now r.limits),
  simp length-take (omega (arith, r.limits.variables)),
  simp length-take (omega (arith, e, r.limits.total)),
)

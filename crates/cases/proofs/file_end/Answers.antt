-- `file_end`: a byte is below 256, so that no number here is too large.
use Prim.Native.Nat.{◌+◌}
use native.Mathlib.Omega.{arith}
use Rattle.cases.proofs.file_end.Goals as goal

pub overflow_cast-high : goal.overflow_cast-high
overflow_cast-high c = omega (arith, c.type_inv.bytes c.args.at)

pub overflow_cast-low : goal.overflow_cast-low
overflow_cast-low c = omega (arith, c.type_inv.bytes (c.args.at + 1))

pub overflow_mul-length : goal.overflow_mul-length
overflow_mul-length c = omega (arith, c.type_inv.bytes c.args.at)

pub overflow_add-length : goal.overflow_add-length
overflow_add-length c = omega (arith, c.type_inv.bytes c.args.at, c.type_inv.bytes (c.args.at + 1))

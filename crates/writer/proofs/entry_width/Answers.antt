-- `entry_width` adds up the widths of the entry's three numbers.
use native.Mathlib.Omega.{arith}
use Rattle.theory.specs.NumberBack.{number-bytes-length}
use Rattle.writer.specs.Widths.{entry_length}
use Rattle.writer.proofs.entry_width.Goals as goal

pub overflow_add-result : goal.overflow_add-result
overflow_add-result c = let e = c.args.entry in omega (arith, number-bytes-length e.variable, number-bytes-length e.before)

pub overflow_add-result-2 : goal.overflow_add-result-2
overflow_add-result-2 c =
    let e = c.args.entry in
    omega (arith, number-bytes-length e.variable, number-bytes-length e.before, number-bytes-length e.after)

pub returns : goal.returns
returns c = omega (arith, entry_length c.args.entry)

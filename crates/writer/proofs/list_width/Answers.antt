-- `list_width` adds the width of the count.
use native.Mathlib.Omega.{arith}
use lib.ListN.{length}
use Rattle.meaning.specs.Number.{number_bytes}
use Rattle.theory.specs.NumberBack.{number-bytes-length}
use Rattle.writer.specs.Widths.{counted-length, numbers-few}
use Rattle.writer.proofs.list_width.Goals as goal

pub overflow_add-result : goal.overflow_add-result
overflow_add-result c =
    let values = c.args.values.now in omega (arith, number-bytes-length (length values), numbers-few values)

pub returns : goal.returns
returns c = omega (arith, counted-length number_bytes c.args.values.now)

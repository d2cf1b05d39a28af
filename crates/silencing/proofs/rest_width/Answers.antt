-- `rest_width` adds the bytes of three parts: all but the operators are few.
use Prim.Native.Nat.{◌+◌, ◌≤◌}
use mathlib.Core.Path.{◌≡◌}
use native.Mathlib.Omega.{arith}
use lib.ListN.{length}
use Rattle.writer.specs.Widths.{four_lists}
use Rattle.silencing.specs.Parts.{rest_bytes, rest-length, rest-few}
use Rattle.silencing.proofs.rest_width.Goals as goal
use Rattle.silencing.proofs.rest_width.Goals.{After-width}

whole : (c : After-width) → let a = c.args in
    c.set_width.result + c.width.result + length a.own.now ≡ length (rest_bytes a.pairs.now a.count a.own.now)
whole c = let a = c.args in omega (arith, c.set_width.ensures, c.width.ensures, rest-length a.pairs.now a.count a.own.now)

few : (c : After-width) → let a = c.args in c.set_width.result + c.width.result + length a.own.now ≤ four_lists + length a.own.now
few c = let a = c.args in omega (arith, whole c, rest-few a.pairs.now a.count a.own.now c.requires.0)

pub overflow_add-result : goal.overflow_add-result
overflow_add-result c = omega (arith, few c, c.well_formed)

pub overflow_add-result-2 : goal.overflow_add-result-2
overflow_add-result-2 c = omega (arith, few c, c.well_formed)

pub returns : goal.returns
returns c = whole c

-- `operators_width` adds the bytes of the count and those of the operators, which are alike.
use Prim.Native.Nat.{◌*◌, ◌<◌}
use mathlib.Core.Path.{◌≡◌, ap, ◌∙◌}
use native.Mathlib.Omega.{arith}
use lib.ListN.{length}
use Rattle.meaning.specs.Limits.{number_end}
use Rattle.meaning.specs.Number.{number_bytes}
use Rattle.meaning.specs.File.{operator_bytes}
use Rattle.theory.specs.NumberBack.{number-bytes-length}
use Rattle.sliding.specs.Counts.{operators-few}
use Rattle.sliding.specs.Operators.{operator_width, one_width, slide-written, operators-length}
use Rattle.sliding.proofs.operators_width.Goals as goal
use Rattle.sliding.proofs.operators_width.Goals.{After-count_operators-count, After-operator_width-each}

-- How many operators there are can be written; and all have the width of one.
countable : (c : After-count_operators-count) → c.count_operators-count.result < number_end
countable c =
    omega (arith, c.count_operators-count.ensures, operators-few c.args.near.now c.args.start.now c.requires)

alike : (c : After-operator_width-each) → c.operator_width-each.result * c.count_operators-count.result ≡ operator_width * c.count_operators-count.result
alike c = ap (λ k. k * c.count_operators-count.result) (c.operator_width-each.ensures ∙ ap (λ o. length (operator_bytes o)) c.slide.ensures ∙ one_width)

pub operator_width-each-requires : goal.operator_width-each-requires
operator_width-each-requires c = rw c.slide.ensures (slide-written 0 1 1 (omega arith) (omega arith) (omega arith))

pub width-requires : goal.width-requires
width-requires c = countable (goal.at.width-requires c).After-count_operators-count

pub overflow_mul-result : goal.overflow_mul-result
overflow_mul-result c = omega (arith, alike (goal.at.overflow_mul-result c).After-operator_width-each, countable (goal.at.overflow_mul-result c).After-count_operators-count)

pub overflow_add-result : goal.overflow_add-result
overflow_add-result c = omega (arith, alike (goal.at.overflow_add-result c).After-operator_width-each, countable (goal.at.overflow_add-result c).After-count_operators-count, c.width.ensures, (number-bytes-length c.count_operators-count.result).1)

pub returns : goal.returns
returns c =
    let e = c.count_operators-count.ensures in
    omega (arith, c.width.ensures, alike (goal.at.returns c).After-operator_width-each, e, ap (λ k. length (number_bytes k)) e, operators-length c.args.near.now c.args.start.now c.requires)

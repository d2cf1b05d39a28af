-- `numbers_width` adds up the widths of the numbers.
use Prim.Native.Nat.{ℕ}
use mathlib.Core.Path.{◌∙◌}
use native.Mathlib.Omega.{arith}
use borrow.Author.Tests.{tests}
use lib.ListN.{length}
use Rattle.std.proofs.Common.{rules}
use Rattle.std.proofs.lemmas.Grind.{get_or_default_zero}
use Rattle.std.proofs.lemmas.Iterator.{YieldsList-from_slice, YieldsList-from_map}
use Rattle.std.proofs.lemmas.Iterator.Adapters.{serves_from_places}
use Rattle.std.proofs.lemmas.Iterator.Consumers.{sum_by_from_yields_List, fits_by_from_yields_list}
use Rattle.meaning.specs.Number.{number_bytes}
use Rattle.writer.specs.Widths.{numbers-few, bytes-summed}
use Rattle.writer.proofs.numbers_width.Goals as goal

abbrev width : ℕ → ℕ
width n = length (number_bytes n)

pub sum-requires-clause-can : goal.sum-requires-clause-can
sum-requires-clause-can c = (
  tt,
  serves_from_places (YieldsList-from_slice c.args.values.now (cc)) (λ x q k. search rules)
      (λ x k l e lifetimes pointer place same fits none. omega (arith, e, get_or_default_zero c.args.values.now k x.now l, c.requires k l)),
)

pub sum-requires-clause-fits : goal.sum-requires-clause-fits
sum-requires-clause-fits c =
    let values = c.args.values.now in
    fits_by_from_yields_list width values c.map.result _ (YieldsList-from_map _ width (YieldsList-from_slice values (cc)) c.map.ensures.closure (λ x r q k. search (rules, tests)))
    (omega (arith, bytes-summed number_bytes values, numbers-few values))

pub returns : goal.returns
returns c =
    let values = c.args.values.now in
    sum_by_from_yields_List width values c.map.result _ c.sum.ensures.ran (YieldsList-from_map _ width (YieldsList-from_slice values (cc)) c.map.ensures.closure (λ x r q k. search (rules, tests)))
    ∙ bytes-summed number_bytes values

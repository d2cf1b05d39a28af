-- `operator_width` adds up the widths of the count and of the entries.
use Prim.Native.Nat.{ℕ, ◌+◌}
use mathlib.Core.Path.{◌≡◌, sym, ◌∙◌, subst}
use native.Mathlib.Omega.{arith}
use borrow.Author.Tests.{tests}
use lib.ListN.{length}
use Rattle.std.proofs.Common.{rules}
use Rattle.std.proofs.lemmas.List.{get_or_default}
use Rattle.std.proofs.lemmas.Iterator.{YieldsList-from_slice, YieldsList-from_map}
use Rattle.std.proofs.lemmas.Iterator.Adapters.{serves_from_places}
use Rattle.std.proofs.lemmas.Iterator.Consumers.{sum_by_from_yields_List, fits_by_from_yields_list}
use Rattle.meaning.specs.Task.{Entry}
use Rattle.meaning.specs.File.{entry_bytes, operator_bytes}
use Rattle.theory.specs.Given.{entry_of}
use Rattle.writer.specs.Parts.{Numbered}
use Rattle.writer.specs.Widths.{operator-length, operator-few, bytes-summed}
use Rattle.writer.proofs.operator_width.Goals as goal
use Rattle.writer.proofs.operator_width.Goals.{After-width}

abbrev width : Entry → ℕ
width e = length (entry_bytes e)

pub sum-width-requires-clause-can : goal.sum-width-requires-clause-can
sum-width-requires-clause-can c = (
  tt,
  serves_from_places (YieldsList-from_slice c.args.entries.now (cc)) (λ x q k. search rules)
      (λ x k l e lifetimes pointer place same fits none. subst Numbered (sym (e ∙ get_or_default c.args.entries.now k x.now (entry_of 0 0 0) l)) (c.requires.1 k l)),
)

pub sum-width-requires-clause-fits : goal.sum-width-requires-clause-fits
sum-width-requires-clause-fits c =
    let o = c.args.entries.now in
    fits_by_from_yields_list width o c.map.result _ (YieldsList-from_map _ width (YieldsList-from_slice o (cc)) c.map.ensures.closure (λ x r q k. search (rules, tests)))
    (omega (arith, bytes-summed entry_bytes o, operator-length o, operator-few o))

-- Both together are the operator's.
whole : (c : After-width) → c.width.result + c.sum-width.result ≡ length (operator_bytes c.args.entries.now)
whole c =
    let o = c.args.entries.now in
    let summed = sum_by_from_yields_List width o c.map.result _ c.sum-width.ensures.ran (YieldsList-from_map _ width (YieldsList-from_slice o (cc)) c.map.ensures.closure (λ x r q k. search (rules, tests))) in
    omega (arith, c.width.ensures, summed, bytes-summed entry_bytes o, operator-length o)

pub overflow_add-result : goal.overflow_add-result
overflow_add-result c = omega (arith, whole c, operator-few c.args.entries.now)

pub returns : goal.returns
returns c = whole c

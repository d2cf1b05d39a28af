-- `read_sizes` meets its contract: the count, and behind it the sizes.
use Rattle.std.proofs.lemmas.Result.{err_from_is_err_and}
use mathlib.Core.Path.{sym}
use native.Mathlib.Omega.{arith}
use Prim.Native.Nat.{◌≤◌}
use lib.ListN.{length-set}
use Rattle.meaning.specs.Limits.{most_variables}
use Rattle.reader.specs.Answer.{answer-fault}
use Rattle.reader.specs.Header.{count-fault, count-known, sizes-behind}
use Rattle.reader.proofs.read_sizes.Goals as goal

pub items_below-requires : goal.items_below-requires
items_below-requires c = let a = c.args in
    let few : c.in_ok-count.count.value ≤ most_variables = (count-known a.bytes.now a.at a.least a.most _ _ (sym c.in_ok-count.ensures)).1 in (few, omega (arith, few, c.requires.0, length-set a.header.now 0 c.in_ok-count.count.value))

pub returns : goal.returns
returns c = sizes-behind _ _ _ _ _ _ c.args.header.now _ _ c.requires.0 (sym c.in_ok-count.ensures) c.items_below.ensures

pub returns-in_err-count : goal.returns-in_err-count
returns-in_err-count c = let p = err_from_is_err_and c.from_residual.result c.from_residual.ensures.1 in rw (p.1, p.2) (answer-fault _ _ _ _ (count-fault _ _ _ _ _ _ (sym c.in_err-count.ensures)))

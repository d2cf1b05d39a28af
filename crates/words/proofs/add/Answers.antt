-- `words::add`: the loop writes `summed` from the front (`Written`); each word that it reads is still that of before.
use Rattle.std.proofs.Common.{◌≡◌, sym, arith, length}
use Rattle.words.specs.Change.{summed, length-summed, get_d-summed}
use Rattle.words.specs.Written.{written-word, written_next, written-done}
use Rattle.words.proofs.add.Goals as goal

pub loop-i-preserved : goal.loop-i-preserved
loop-i-preserved c =
    let l = c.args.into.now in
    let s = c.args.from.now in
    let e : length l ≡ length (summed l s) = sym (length-summed l s) in
    let here = written-word l (summed l s) _ _ e c.loop-i.invariant in
    written_next l (summed l s) _ _ _ e c.loop-i.invariant (omega arith) (rw here (sym (get_d-summed l s _ c.requires)))

pub returns : goal.returns
returns c = written-done _ _ _ _ (sym (length-summed _ _)) c.loop-i.invariant (omega arith)

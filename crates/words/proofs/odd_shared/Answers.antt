-- `words::odd_shared`: the bits of the sum have the parity of what is shared in the words that are done (`Parity`).
use Rattle.std.proofs.Common.{◌≡◌, arith, length, length-append}
use Rattle.std.proofs.lemmas.Slice.Zip.{zip_turn, zip_end}
use Rattle.words.specs.Parity.{parity-start, parity-next, parity-done}
use Rattle.words.proofs.odd_shared.Goals as goal

pub loop-x-init : goal.loop-x-init
loop-x-init c = parity-start _ _

pub loop-x-preserved : goal.loop-x-preserved
loop-x-preserved c =
    let a = c.args.a.now in
    let b = c.args.b.now in
    let turn = zip_turn a b c.loop-x.yielded _ _ c.next.new.self _ (cc) (cc) c.loop-x.yielded_by _ c.in-Some.is c.next.ensures.steps in
    rw (turn.2 0, turn.3 0, length-append) (parity-next a b _ _ c.loop-x.invariant)

pub returns : goal.returns
returns c =
    let e = zip_end c.args.a.now c.args.b.now c.loop-x.yielded _ _ c.next.new.self _ (cc) (cc) c.loop-x.yielded_by c.in-None.is c.next.ensures.steps in
    let n : length c.loop-x.yielded ≡ length c.args.a.now = omega (arith, e) in
    rw (← n) (parity-done _ _ _ _ (omega arith) c.loop-x.invariant)

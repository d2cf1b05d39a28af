-- `fill_named`: the values that are named so far stand in front of the table.
use Rattle.std.proofs.Common.{◌≡◌, arith, length, length-append, length-set}
use Rattle.std.proofs.lemmas.Slice.Zip.{zip_turn, zip_end}
use Rattle.silencing.specs.Marks.{picked_next, picked_all}
use Rattle.silencing.proofs.fill_named.Goals as goal

pub loop-value-preserved : goal.loop-value-preserved
loop-value-preserved c =
    let goal = c.args.goal.now in
    let marks = c.args.marks.now in
    let inv = c.loop-value.invariant in
    let turn = zip_turn goal marks c.loop-value.yielded _ _ c.next.new.self _ (cc) (cc) c.loop-value.yielded_by _ c.in-Some.is c.next.ensures.steps in
    let named = picked_next marks goal (length c.loop-value.yielded) c.loop-value.count c.loop-value.named c.requires.0 turn.1 (omega (arith, c.requires.1, turn.1, inv)) inv.2 in
    let few = c.requires.0.each _ turn.1 in
    rw (turn.2 0, turn.3 0, length-append) (omega (arith, inv.0, few), simp length-set inv.1, named)

pub returns : goal.returns
returns c =
    let e = zip_end c.args.goal.now c.args.marks.now c.loop-value.yielded _ _ c.next.new.self _ (cc) (cc) c.loop-value.yielded_by c.in-None.is c.next.ensures.steps in
    let all : length c.loop-value.yielded ≡ length c.args.marks.now = omega (arith, e, c.requires.0.long) in
    (omega (arith, c.loop-value.invariant.0, all), picked_all _ _ _ c.loop-value.count c.loop-value.named (omega (arith, all)) c.loop-value.invariant.2)

-- `slots::find`: the least member of `left` is `lead`, and the collected words are those of its witness.
use mathlib.Core.Path.{◌≡◌, ◌∙◌}
use native.Mathlib.Omega.{arith}
use lib.ListN.{length, take, drop, length-take}
use lib.Seq.{length-take-le}
use Rattle.meaning.specs.Workspace.{words_for}
use Rattle.slots.specs.Area.{slot-room}
use Rattle.slots.specs.Find.{found_none, found_some, witness-words, words-front}
use Rattle.slots.proofs.find.Goals as goal

pub returns-then-n-m : goal.returns-then-n-m
returns-then-n-m c = found_none c.args.n c.next_member-m.result _ c.args.left.now
    c.args.room.now c.next_member-m.ensures c.if-n-m.true

pub slice_bounds-witness-end-2 : goal.slice_bounds-witness-end-2
slice_bounds-witness-end-2 c = simp length-take (omega (arith, c.requires))

pub witness-requires : goal.witness-requires
witness-requires c = let n = c.args.n in
    let m = c.next_member-m.result in
    let w = length (take (length c.args.left.now) c.args.room.now) in
    let e : w ≡ words_for n = length-take-le _ _ (omega (arith, c.requires)) ∙ c.requires.2 in (
      slot-room n w m c.args.area.now e c.requires.1 c.if-n-m.false,
      omega
          (arith, e, c.if-n-m.false),
      omega (arith, c.if-n-m.false, c.requires),
    )

pub returns : goal.returns
returns c = let n = c.args.n in
    let m = c.next_member-m.result in
    let words = c.witness.new.set in
    let left = c.args.left.now in
    let w = length (take (length left) c.args.room.now) in
    let e : w ≡ words_for n = length-take-le _ _ (omega (arith, c.requires)) ∙
    c.requires.2 in
    found_some n m _ left c.args.room.now c.next_member-m.ensures
    words c.if-n-m.false c.requires.2 (witness-words n m w c.args.area.now words
    c.requires.0 c.if-n-m.false e (omega (arith, c.witness))
    (words-front words (drop (length left) c.args.room.now) (λ i h. (c.type_inv.room i).fits)) c.witness.ensures)

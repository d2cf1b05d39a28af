-- `put_members` goes from member to member: at each turn the members below the place reached are written.
use Prim.Native.Nat.{◌+◌, ◌*◌}
use mathlib.Core.Path.{◌≡◌, refl, ◌∙◌}
use native.Mathlib.Omega.{arith}
use lib.ListN.{length}
use Rattle.meaning.specs.Limits.{word_bits}
use Rattle.meaning.specs.Line.{words_in}
use Rattle.meaning.specs.Workspace.{has}
use Rattle.decimal.specs.Put.{put-none, put-behind}
use Rattle.words.specs.Members.{reached, members-first}
use Rattle.decimal.specs.Members.{words-part, words-next}
use Rattle.decimal.proofs.put_members.Goals as goal

pub loop-f-init : goal.loop-f-init
unfolding words_in
loop-f-init c =
    let a = c.args in
    let features = has a.words.now in
    let n = word_bits * length a.words.now in
    let next = c.next_member-f.ensures in
    (reached features n 0 _ next, refl, rw (members-first features n _ next) (put-none a.line.now a.at))

pub put_word-next-requires : goal.put_word-next-requires
put_word-next-requires c =
    let words = c.args.words.now in
    let turn = c.loop-f in
    omega (arith, turn.invariant.1, turn.invariant.2.place, words-part (has words) (word_bits * length words) turn.f turn.invariant.0 (omega (arith, c.loop-f-test.true)))

pub loop-f-preserved : goal.loop-f-preserved
loop-f-preserved c =
    let features = has c.args.words.now in
    let n = word_bits * length c.args.words.now in
    let turn = c.loop-f in
    let next = c.next_member-f-in-loop-f.ensures in
    let more = words-next features n turn.f _ turn.invariant.0 (omega (arith, c.loop-f-test.true)) next in (
      reached features n (turn.f + 1) _ next,
      c.put_word-next.auto.line ∙ turn.invariant.1,
      rw more (put-behind (omega (arith, c.requires.1)) turn.invariant.2 c.put_word-next.ensures),
    )

pub shape_of-line : goal.shape_of-line
shape_of-line c = c.loop-f.invariant.1

pub returns : goal.returns
returns c =
    let words = c.args.words.now in
    let turn = c.loop-f in
    let end : turn.f ≡ word_bits * length words = omega (arith, turn.invariant.0.within, c.loop-f-test.false) in
    rw end at turn.invariant.2

-- `members_width` adds up widths from member to member: at each turn the bytes of the members ahead make up the rest.
use Prim.Native.Nat.{◌+◌, ◌*◌}
use mathlib.Core.Path.{◌≡◌, ap}
use native.Mathlib.Omega.{arith}
use lib.ListN.{length}
use Rattle.meaning.specs.Limits.{word_bits}
use Rattle.meaning.specs.Number.{number_bytes}
use Rattle.meaning.specs.File.{kind_if, numbers_for}
use Rattle.meaning.specs.Workspace.{has}
use Rattle.theory.specs.ReadBack.{said_as, numbers-length}
use Rattle.theory.specs.NumberBack.{number-bytes-length}
use Rattle.words.specs.Members.{reached, members-few, members_in}
use Rattle.writer.specs.Widths.{numbers-few, part_length}
use Rattle.writer.specs.Walk.{ahead-first, ahead-next, ahead_none}
use Rattle.writer.proofs.members_width.Goals as goal

pub loop-f-init : goal.loop-f-init
loop-f-init c =
    let a = c.args in
    let words = a.words.now in
    let n = word_bits * length words in
    let next = c.next_member-f.ensures in
    (reached (has words) n 0 _ next, omega arith, omega (arith, ap length (ahead-first (kind_if a.gapped) (has words) n _ next)))

pub overflow_add-sum : goal.overflow_add-sum
overflow_add-sum c =
    let kind = kind_if c.args.gapped in
    let words = c.args.words.now in
    omega (
      arith,
      c.requires,
      c.loop-f.invariant.2,
      members-few (has words) (word_bits * length words),
      numbers-few (numbers_for kind 0 (members_in words)),
      numbers-length kind 0 (members_in words),
      c.width-sum.ensures,
      number-bytes-length c.number_for.result,
    )

pub loop-f-preserved : goal.loop-f-preserved
loop-f-preserved c =
    let a = c.args in
    let kind = kind_if a.gapped in
    let words = a.words.now in
    let n = word_bits * length words in
    let turn = c.loop-f in
    let next = c.next_member-f-in-loop-f.ensures in
    let more = ahead-next kind (has words) n turn.least turn.f _ turn.invariant.0 (omega (arith, c.loop-f-test.true)) next in (
      reached (has words) n (turn.f + 1) _ next,
      next.above,
      omega (arith, turn.invariant.2, part_length (number_bytes (said_as kind turn.least turn.f)) _ more, c.width-sum.ensures, ap (λ k. length (number_bytes k)) c.number_for.ensures),
    )

pub returns : goal.returns
returns c =
    let a = c.args in
    let words = a.words.now in
    let n = word_bits * length words in
    let turn = c.loop-f in
    let end : turn.f ≡ n = omega (arith, turn.invariant.0.within, c.loop-f-test.false) in
    omega (arith, turn.invariant.2, ap length (ahead_none (kind_if a.gapped) (has words) n turn.least turn.f end))

-- `write_members` writes a number at each member: the bytes of the members ahead are what remains.
use Prim.Native.Nat.{◌+◌, ◌*◌}
use mathlib.Core.Path.{◌≡◌, sym, ap, ◌∙◌}
use mathlib.Core.List.{◌++◌}
use native.Mathlib.Omega.{arith}
use lib.ListN.{length}
use Rattle.meaning.specs.Limits.{word_bits}
use Rattle.meaning.specs.Number.{number_bytes}
use Rattle.meaning.specs.File.{kind_if}
use Rattle.meaning.specs.Workspace.{has}
use Rattle.theory.specs.ReadBack.{said_as}
use Rattle.words.specs.Members.{reached}
use Rattle.writer.specs.Remains.{remains-all, part-fits, remains-after, remains-none}
use Rattle.writer.specs.Walk.{said-most, ahead, ahead-first, ahead_more, ahead-next, ahead_none}
use Rattle.writer.proofs.write_members.Goals as goal

pub loop-f-init : goal.loop-f-init
loop-f-init c =
    let kind = kind_if c.args.gapped in
    let words = c.args.words.now in
    let n = word_bits * length words in
    let next = c.next_member-f.ensures in
    (reached (has words) n 0 _ next, omega arith, rw (ahead-first kind (has words) n _ next) (remains-all _ _ _ c.requires.1))

pub write_number-next-requires : goal.write_number-next-requires
write_number-next-requires c =
    let kind = kind_if c.args.gapped in
    let words = c.args.words.now in
    let n = word_bits * length words in
    let turn = c.loop-f in
    let said = said_as kind turn.least turn.f in
    let more = ahead_more kind (has words) n turn.least turn.f turn.invariant.0 (omega (arith, c.loop-f-test.true)) in (
      omega (arith, c.number_for.ensures, said-most kind turn.least turn.f, c.loop-f-test.true, c.requires.0),
      omega (arith, part-fits turn.invariant.2 (number_bytes said) _ more, ap (λ k. length (number_bytes k)) c.number_for.ensures),
    )

pub loop-f-preserved : goal.loop-f-preserved
loop-f-preserved c =
    let kind = kind_if c.args.gapped in
    let words = c.args.words.now in
    let n = word_bits * length words in
    let turn = c.loop-f in
    let number = c.number_for in
    let next = c.next_member-f-in-loop-f.ensures in
    let more = ahead-next kind (has words) n turn.least turn.f _ turn.invariant.0 (omega (arith, c.loop-f-test.true)) next in
    let split = more ∙ ap (λ k. number_bytes k ++ ahead kind (has words) n (turn.f + 1) c.next_member-f-in-loop-f.result) (sym number.ensures) in
    (reached (has words) n (turn.f + 1) _ next, next.above, remains-after turn.invariant.2 (number_bytes number.result) _ _ _ split c.write_number-next.ensures.after c.write_number-next.ensures.written)

pub returns : goal.returns
returns c =
    let a = c.args in
    let words = a.words.now in
    let n = word_bits * length words in
    let turn = c.loop-f in
    let end : turn.f ≡ n = omega (arith, turn.invariant.0.within, c.loop-f-test.false) in
    let told = remains-none turn.invariant.2 (ahead_none (kind_if a.gapped) (has words) n turn.least turn.f end) in
    record { after = told.0; written = told.1 }

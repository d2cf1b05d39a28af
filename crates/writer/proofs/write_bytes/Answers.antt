-- `write_bytes`: the loop copies byte after byte (`paste` of the standard laws).
use Rattle.std.proofs.Common.{◌≡◌, ◌+◌, ◌++◌, ◌∙◌, ap, arith, refl, length, length-set, take, drop}
use Rattle.std.proofs.Math.Seq.{paste-zero}
use Rattle.writer.specs.Copied.{copied_next, copied_all}
use Rattle.writer.proofs.write_bytes.Goals as goal

pub loop-i-init : goal.loop-i-init
loop-i-init c = (refl, paste-zero c.args.room.now c.args.at c.args.bytes.now)

pub loop-i-preserved : goal.loop-i-preserved
loop-i-preserved c = let inv = c.loop-i.invariant in (simp length-set inv.0, copied_next _ _ _ _ _ inv.1 c.requires (omega arith))

pub returns : goal.returns
returns c =
    let a = c.args in
    let all : c.loop-i.i ≡ length a.bytes.now = omega arith in
    let told = copied_all _ _ _ _ _ c.loop-i.invariant.1 all in
    record { after = refl; written = told.1 ∙ ap (λ i. take a.at a.room.now ++ (a.bytes.now ++ drop (a.at + i) a.room.now)) all }

-- `bytes_read`: at each byte that says that one group follows, what is read so far and what is still to be read come to the whole.
use Rattle.std.proofs.Common.{◌+◌, ◌-◌, ◌≡◌, arith, inl, inr, refl, sym, add-zero, zero-add}
use Rattle.meaning.specs.Limits.{most_groups}
use Rattle.meaning.specs.Number.{groups_read, bytes_read}
use Rattle.number.specs.Laws.{read_none, read-last, read_more}
use Rattle.number.proofs.bytes_read.Goals as goal

pub loop-i-init : goal.loop-i-init
unfolding bytes_read
loop-i-init c = (inr refl, simp (zero-add, add-zero))

pub returns-then-bytes-at : goal.returns-then-bytes-at
returns-then-bytes-at c = omega (arith, read_none c.args.bytes.now (c.args.at + c.loop-i.i) (most_groups - c.loop-i.i) c.if-bytes-at.true)

pub returns-then-bytes-at-lt-GROUP : goal.returns-then-bytes-at-lt-GROUP
returns-then-bytes-at-lt-GROUP c =
    omega (arith, read-last c.args.bytes.now (c.args.at + c.loop-i.i) (most_groups - c.loop-i.i) (omega arith) c.if-bytes-at.false c.if-bytes-at-lt-GROUP.true)

pub loop-i-preserved : goal.loop-i-preserved
loop-i-preserved c =
    let less : most_groups - c.loop-i.i - 1 ≡ most_groups - (c.loop-i.i + 1) = omega arith in
    let on : c.args.at + c.loop-i.i + 1 ≡ c.args.at + (c.loop-i.i + 1) = omega arith in
    let more = simp (less, on) at (read_more c.args.bytes.now (c.args.at + c.loop-i.i) (most_groups - c.loop-i.i) (omega arith) c.if-bytes-at.false c.if-bytes-at-lt-GROUP.false) in
    (inl (omega arith), omega (arith, more))

pub returns : goal.returns
unfolding groups_read
returns c = let z : c.loop-i.i ≡ most_groups = omega arith in sym (simp z at c.loop-i.invariant.1)

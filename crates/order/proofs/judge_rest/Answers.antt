-- `judge_rest`: the operators are read by the file's own sizes; where nothing follows, the file was read wholly.
use Rattle.std.proofs.lemmas.Result.{err_from_is_err_and}
use Rattle.theory.specs.PartialParts.{out_for}
use Rattle.layout.specs.Parts.{headed-sizes}
use Rattle.order.specs.Front.{front-room, front-few, operators-unread, operators-over, operators-whole}
use Rattle.order.proofs.judge_rest.Goals as goal

pub sizes-sizes-requires : goal.sizes-sizes-requires
sizes-sizes-requires c = headed-sizes (front-room _ c.requires.0.1)

pub operators_at-requires : goal.operators_at-requires
operators_at-requires c = front-few _ c.requires.0.1 _ c.sizes-sizes.ensures

pub returns-in_err-next : goal.returns-in_err-next
returns-in_err-next c =
    let p = err_from_is_err_and c.from_residual.result c.from_residual.ensures.1 in
    rw (p.1, p.2) (operators-unread _ c.requires.0.1 _ c.sizes-sizes.ensures _ c.in_err-next.ensures (out_for c.args.lean))

pub returns-then-next-bytes : goal.returns-then-next-bytes
returns-then-next-bytes c = operators-over _ c.requires.0.1 _ c.sizes-sizes.ensures _ c.in_ok-next.ensures c.if-next-bytes.true (out_for c.args.lean)

pub judge_whole-requires : goal.judge_whole-requires
judge_whole-requires c = let p = c.requires in (operators-whole _ p.0.1 _ c.sizes-sizes.ensures _ c.in_ok-next.ensures c.if-next-bytes.false, p.1, p.2)

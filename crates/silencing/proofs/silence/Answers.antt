-- `silence`: what is known of an accepted task goes to `silence_judged`; a refusal is answered as it is.
use Rattle.std.proofs.lemmas.Result.{err_from_is_err_and}
use mathlib.Core.Path.{refl}
use native.Mathlib.Omega.{arith}
use lib.ListN.{replicate}
use Rattle.meaning.specs.Limits.{most_variables, most_features}
use Rattle.meaning.specs.Workspace.{slots_at}
use Rattle.theory.specs.Spent.{Bytes}
use Rattle.layout.specs.Parts.{headed-sizes}
use Rattle.task.specs.Answer.{Known, judged-accepted, judged-refused, known-room}
use Rattle.writer.specs.Copied.{lent-behind}
use Rattle.silencing.specs.Answer.{at-within, known-parted, task-refused}
use Rattle.silencing.proofs.silence.Goals as goal
use Rattle.silencing.proofs.silence.Goals.{In_ok-header}

known : (c : In_ok-header) → let h = c.in_ok-header.header in
    Known c.args.task.now (replicate (slots_at most_variables most_features) 0) c.judge.new.words h.variables h.features h.operators h.next
known c = judged-accepted _ _ _ _ c.in_ok-header.ensures

small : (c : In_ok-header) → Bytes c.args.task.now
small c i = omega (arith, c.type_inv.task i)

pub slice_bounds-silence_judged-count : goal.slice_bounds-silence_judged-count
slice_bounds-silence_judged-count c = at-within (known c)

pub slice_bounds-silence_judged-start : goal.slice_bounds-silence_judged-start
slice_bounds-silence_judged-start c = omega (arith, at-within (known (goal.at.slice_bounds-silence_judged-start c).In_ok-header))

pub sizes-requires : goal.sizes-requires
sizes-requires c = headed-sizes (known-room (known (goal.at.sizes-requires c).In_ok-header).accepted)

pub start-requires : goal.start-requires
start-requires c = known-room (known (goal.at.start-requires c).In_ok-header).accepted

pub goal-requires : goal.goal-requires
goal-requires c = known-room (known (goal.at.goal-requires c).In_ok-header).accepted

pub pairs-requires : goal.pairs-requires
pairs-requires c = known-room (known (goal.at.pairs-requires c).In_ok-header).accepted

pub silence_judged-requires : goal.silence_judged-requires
silence_judged-requires c =
    (_, known-parted (known (goal.at.silence_judged-requires c).In_ok-header) _ _ _ _ c.sizes.ensures c.start.ensures c.goal.ensures c.pairs.ensures (small (goal.at.silence_judged-requires c).In_ok-header) _ (lent-behind c.args.task.now _ _ refl))

pub returns : goal.returns
returns c =
    c.silence_judged.ensures _ (known-parted (known (goal.at.returns c).In_ok-header) _ _ _ _ c.sizes.ensures c.start.ensures c.goal.ensures c.pairs.ensures (small (goal.at.returns c).In_ok-header) _ (lent-behind c.args.task.now _ _ refl))

pub returns-in_err-header : goal.returns-in_err-header
returns-in_err-header c = let p = err_from_is_err_and c.from_residual.result c.from_residual.ensures.1 in
    rw (p.1, p.2) (task-refused _ _ _ _ _ (judged-refused _ _ _ _ c.in_err-header.ensures))

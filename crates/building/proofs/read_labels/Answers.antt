-- `read_labels` reads a label over each bound, of the start and then of the goal, and that nothing follows.
use Rattle.std.proofs.lemmas.Result.{err_from_is_err_and}
use mathlib.Core.Path.{◌≡◌, ap, ◌∙◌}
use native.Mathlib.Omega.{arith}
use lib.ListN.{length, length-replicate}
use Rattle.meaning.specs.Number.{got}
use Rattle.meaning.specs.File.{values_of}
use Rattle.meaning.specs.Bay.{bay_sizes}
use Rattle.reader.specs.Lists.{apart-same}
use Rattle.building.specs.Labels.{labels-read, labels-fault}
use Rattle.building.specs.Outcomes.{start-fault, goal-fault, left_over, labelled-whole}
use Rattle.building.proofs.read_labels.Goals as goal
use Rattle.building.proofs.read_labels.Goals.{In_ok-next, In_ok-end, Start}

-- There are n bounds for the start, and as many for the goal.
start-long : (c : Start) → length c.args.start.now ≡ c.args.n
start-long c = ap length c.requires.0 ∙ length-replicate c.args.n c.args.n

goal-long : (c : Start) → length c.args.goal.now ≡ c.args.n
goal-long c = ap length c.requires.1 ∙ length-replicate c.args.n c.args.n

-- The start that was read, and the goal.
start-read : (c : In_ok-next) → let a = c.args in
    values_of (bay_sizes a.n) a.bay.now a.at ≡ got c.items_at.new.words c.in_ok-next.next
start-read c = labels-read c.args.n _ _ c.args.start.now c.args.n _ c.requires.0 (omega (arith, start-long (goal.at.In_ok-next c).Start)) _ c.in_ok-next.ensures

goal-read : (c : In_ok-end) → let a = c.args in
    values_of (bay_sizes a.n) a.bay.now c.in_ok-next.next ≡ got c.items_at-2.new.words c.in_ok-end.end
goal-read c = labels-read c.args.n _ _ c.args.goal.now c.args.n _ c.requires.1 (omega (arith, goal-long (goal.at.In_ok-end c).Start)) _ c.in_ok-end.ensures

pub items_at-requires : goal.items_at-requires
items_at-requires c = let few = start-long (goal.at.items_at-requires c).Start in (omega (arith, few), omega (arith, few), apart-same 0 _)

pub items_at-requires-2 : goal.items_at-requires-2
items_at-requires-2 c = let few = goal-long (goal.at.items_at-requires-2 c).Start in (omega (arith, few), omega (arith, few), apart-same 0 _)

pub returns-then-end-bay : goal.returns-then-end-bay
returns-then-end-bay c = left_over _ _ _ _ _ (start-read (goal.at.returns-then-end-bay c).In_ok-next) _ _ (goal-read (goal.at.returns-then-end-bay c).In_ok-end) c.if-end-bay.true

pub returns : goal.returns
returns c = labelled-whole _ _ _ _ _ (start-read (goal.at.returns c).In_ok-next) _ _ (goal-read (goal.at.returns c).In_ok-end) c.if-end-bay.false

pub returns-in_err-end : goal.returns-in_err-end
returns-in_err-end c = let p = err_from_is_err_and c.from_residual-in_err-end.result c.from_residual-in_err-end.ensures.1 in rw (p.1, p.2) (
    goal-fault _ _ _ _ _ (start-read (goal.at.returns-in_err-end c).In_ok-next) _ _
    (labels-fault c.args.n _ _ c.args.goal.now c.args.n _ c.requires.1 (omega (arith, goal-long (goal.at.returns-in_err-end c).Start)) _ c.in_err-end.ensures))

pub returns-in_err-next : goal.returns-in_err-next
returns-in_err-next c = let p = err_from_is_err_and c.from_residual.result c.from_residual.ensures.1 in rw (p.1, p.2) (
    start-fault _ _ _ _ _ (labels-fault c.args.n _ _ c.args.start.now c.args.n _ c.requires.0 (omega (arith, start-long (goal.at.returns-in_err-next c).Start)) _ c.in_err-next.ensures))

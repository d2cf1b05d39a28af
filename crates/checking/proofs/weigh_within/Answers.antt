-- `weigh_within`: the parts of the header, the weights that were read, and the verdict on them.
use mathlib.Core.Path.{◌≡◌, refl}
use mathlib.Core.List.{List}
use Rattle.meaning.specs.Number.{got}
use Rattle.meaning.specs.File.{kind_if, judged_weights_as}
use Rattle.layout.specs.Parts.{headed-sizes}
use Rattle.task.specs.Answer.{known-room}
use Rattle.reader.specs.Answer.{feature_words, reads-next, reads-fault}
use Rattle.order.specs.With.{with-few}
use Rattle.checking.specs.Weigh.{weights-refused, lent-ready, lent-checks}
use Rattle.checking.proofs.weigh_within.Goals as goal
use Rattle.checking.proofs.weigh_within.Goals.{In-Ok}

weights : (c : In-Ok) → (ws : List _) × (judged_weights_as (kind_if c.args.gapped) c.args.header.features c.args.weights.now ≡ got ws c.in-Ok.field-0)
    × (c.read_weights.new.words ≡ feature_words c.args.header.features ws)
weights c = reads-next _ _ _ _ _ c.in-Ok.ensures refl

pub sizes-requires : goal.sizes-requires
sizes-requires c = headed-sizes (known-room c.requires.0.2.accepted)

pub start-requires : goal.start-requires
start-requires c = known-room c.requires.0.2.accepted

pub goal-requires : goal.goal-requires
goal-requires c = known-room c.requires.0.2.accepted

pub pairs-requires : goal.pairs-requires
pairs-requires c = known-room c.requires.0.2.accepted

pub judge_weights-requires : goal.judge_weights-requires
judge_weights-requires c = let (ws, said, held) = weights (goal.at.judge_weights-requires c).In-Ok in let known = c.requires.0.2 in
    let (listed, first, last, row) = lent-ready _ _ _ _ _ _ known.accepted _ ws _ _ said held _ _ _ _ c.sizes.ensures c.start.ensures c.goal.ensures c.pairs.ensures in
    (with-few known, listed, first, last, row)

pub returns-in-Ok : goal.returns-in-Ok
returns-in-Ok c = λ judging old known. let (ws, said, held) = weights (goal.at.returns-in-Ok c).In-Ok in
    lent-checks _ _ _ _ _ _ known _ _ ws _ _ said held _ _ _ _ c.sizes.ensures c.start.ensures c.goal.ensures c.pairs.ensures
    _ c.judge_weights.ensures

pub returns-in-Err : goal.returns-in-Err
returns-in-Err c = λ judging old known. weights-refused _ _ _ _ _ _ known.accepted _ _ _
    (reads-fault _ _ _ _ _ c.in-Err.ensures refl) _ c.from.ensures

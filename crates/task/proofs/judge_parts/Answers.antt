-- `judge_parts`: the front that was read, whose parts are lent from the words; then what is judged behind it.
use Rattle.std.proofs.lemmas.Result.{err_from_is_err_and}
use Rattle.meaning.specs.File.{kind_if}
use Rattle.layout.specs.Parts.{headed-sizes}
use Rattle.task.specs.Answer.{Fronted, front-told, front-faulted, front-refused, fronted-room, lent-ready, rest-refused, rest-accepted}
use Rattle.task.proofs.judge_parts.Goals as goal
use Rattle.task.proofs.judge_parts.Goals.{In_ok-header}

-- What is known of the front that was read.
known : (c : In_ok-header) → let header = c.in_ok-header.header in
    Fronted (kind_if c.args.gapped) c.args.bytes.now c.args.at c.args.words.now c.read_header.new.header header.variables header.features header.operators header.next
known c = front-told _ _ _ _ c.in_ok-header.ensures

pub returns-in_err-header : goal.returns-in_err-header
returns-in_err-header c =
    let p = err_from_is_err_and c.from_residual.result c.from_residual.ensures.1 in
    rw (p.1, p.2) (front-refused _ _ _ _ _ _ _ (front-faulted _ _ _ _ c.in_err-header.ensures))

pub sizes-requires : goal.sizes-requires
sizes-requires c = headed-sizes (fronted-room _ _ _ _ _ _ _ _ _ (known (goal.at.sizes-requires c).In_ok-header))

pub start-requires : goal.start-requires
start-requires c = fronted-room _ _ _ _ _ _ _ _ _ (known (goal.at.start-requires c).In_ok-header)

pub pairs-requires : goal.pairs-requires
pairs-requires c = fronted-room _ _ _ _ _ _ _ _ _ (known (goal.at.pairs-requires c).In_ok-header)

pub judge_rest-requires : goal.judge_rest-requires
judge_rest-requires c = lent-ready _ _ _ _ _ _ _ _ _ (known (goal.at.judge_rest-requires c).In_ok-header) _ _ _ c.sizes.ensures c.start.ensures c.pairs.ensures

pub returns-in_err-judge_rest : goal.returns-in_err-judge_rest
returns-in_err-judge_rest c =
    let exit = c.from_residual-in_err-judge_rest in
    let p = err_from_is_err_and exit.result exit.ensures.1 in
    rw (p.1, p.2) (rest-refused _ _ _ _ _ _ _ _ _ (known (goal.at.returns-in_err-judge_rest c).In_ok-header) _ _ _ c.sizes.ensures c.start.ensures c.pairs.ensures _ _ c.in_err-judge_rest.ensures)

pub returns : goal.returns
returns c = rest-accepted _ _ _ _ _ _ _ _ _ (known (goal.at.returns c).In_ok-header) _ _ _ c.sizes.ensures c.start.ensures c.pairs.ensures _ _ c.in_ok-judge_rest.ensures

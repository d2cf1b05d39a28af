-- `weights_spot`: the first fault that is found as the weights are read.
use Rattle.std.proofs.Common.{ap}
use Rattle.placing.specs.Answers.{spot_of}
use Rattle.meaning.specs.Place.{nowhere, in_weights}
use Rattle.layout.specs.Parts.{room-zeros}
use Rattle.reader.specs.Answer.{reads-next, reads-fault}
use Rattle.locating.specs.Spots.{err-some, err-none, fault-spot, next-spot}
use Rattle.locating.proofs.weights_spot.Goals as goal

pub read_weights-requires : goal.read_weights-requires
read_weights-requires c = room-zeros _ _ c.requires c.words_for-w.ensures

pub returns-in_err-reason : goal.returns-in_err-reason
returns-in_err-reason c =
    let (next, e) = err-none _ c.in_err-reason.ensures.value in
    let (ws, read, held) = reads-next _ _ _ _ _ c.read_weights.ensures e in
    next-spot in_weights (λ _. nowhere) _ _ ws _ read (ap spot_of c.from_residual.ensures)

pub returns : goal.returns
returns c =
    let fault = c.in_ok-reason.field-0 in
    fault-spot in_weights (λ _. nowhere) _ _ fault (reads-fault _ _ _ _ _ c.read_weights.ensures (err-some _ fault c.in_ok-reason.ensures.value)) c.placed.ensures

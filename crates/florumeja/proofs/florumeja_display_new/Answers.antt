-- `florumeja_display_new`: the value fits, so that the number says the answer.
use Rattle.meaning.specs.File.{gapped}
use Rattle.meaning.specs.Place.{shown_as}
use Rattle.showing.specs.Answer.{leaving_of}
use Rattle.florumeja.specs.Fits.{displays-fit}
use Rattle.florumeja.proofs.florumeja_display_new.Goals as goal

pub number-requires : goal.number-requires
number-requires c =
    let start = c.args in
    displays-fit (shown_as gapped start.task.now start.weights.now) start.room.now (leaving_of c.display_new.result _) c.display_new.ensures

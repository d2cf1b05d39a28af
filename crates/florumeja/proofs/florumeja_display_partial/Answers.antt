-- `florumeja_display_partial`: the value fits, so that the number says the answer.
use Rattle.meaning.specs.Place.{shown_partial}
use Rattle.showing.specs.Answer.{leaving_of}
use Rattle.florumeja.specs.Fits.{displays-fit}
use Rattle.florumeja.proofs.florumeja_display_partial.Goals as goal

pub number-requires : goal.number-requires
number-requires c =
    let start = c.args in
    displays-fit (shown_partial start.partial.now start.weights.now) start.room.now (leaving_of c.display_partial.result _) c.display_partial.ensures

-- `florumeja_display`: the value fits, so that the number says the answer.
use Rattle.meaning.specs.Place.{shown}
use Rattle.showing.specs.Answer.{leaving_of}
use Rattle.florumeja.specs.Fits.{displays-fit}
use Rattle.florumeja.proofs.florumeja_display.Goals as goal

pub number-requires : goal.number-requires
number-requires c =
    let start = c.args in
    displays-fit (shown start.task.now start.weights.now) start.room.now (leaving_of c.display_words.result _) c.display_words.ensures

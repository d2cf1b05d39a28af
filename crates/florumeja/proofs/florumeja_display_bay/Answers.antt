-- `florumeja_display_bay`: the value fits, so that the number says the answer.
use Rattle.meaning.specs.Place.{shown_bay}
use Rattle.showing.specs.Answer.{leaving_of}
use Rattle.florumeja.specs.Fits.{displays-fit}
use Rattle.florumeja.proofs.florumeja_display_bay.Goals as goal

pub number-requires : goal.number-requires
number-requires c =
    let start = c.args in
    displays-fit (shown_bay start.bay.now) start.room.now (leaving_of c.display_bay.result _) c.display_bay.ensures

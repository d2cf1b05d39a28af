-- `florumeja_find`: the value fits, so that the number says the answer.
use Rattle.florumeja.specs.Fits.{finds-fit}
use Rattle.florumeja.proofs.florumeja_find.Goals as goal

pub number-requires : goal.number-requires
number-requires c = finds-fit _ _ _ c.find.ensures

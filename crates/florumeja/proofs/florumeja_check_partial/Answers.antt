-- `florumeja_check_partial`: the value fits, so that the number says the answer.
use Rattle.meaning.specs.File.{plain}
use Rattle.florumeja.specs.Fits.{checks-partial-fit}
use Rattle.florumeja.proofs.florumeja_check_partial.Goals as goal

pub verdict_number-requires : goal.verdict_number-requires
verdict_number-requires c = checks-partial-fit plain _ _ _ c.check_partial.ensures

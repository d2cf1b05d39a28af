-- `florumeja_check`: the value fits, so that the number says the answer.
use Rattle.meaning.specs.File.{plain}
use Rattle.florumeja.specs.Fits.{checks-fit}
use Rattle.florumeja.proofs.florumeja_check.Goals as goal

pub verdict_number-requires : goal.verdict_number-requires
verdict_number-requires c = checks-fit plain _ _ _ c.check.ensures

-- `florumeja_check_new`: the value fits, so that the number says the answer.
use Rattle.meaning.specs.File.{gapped}
use Rattle.florumeja.specs.Fits.{checks-fit}
use Rattle.florumeja.proofs.florumeja_check_new.Goals as goal

pub verdict_number-requires : goal.verdict_number-requires
verdict_number-requires c = checks-fit gapped _ _ _ c.check_new.ensures

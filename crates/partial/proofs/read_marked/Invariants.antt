-- `read_marked` counts N of the built task.
use Rattle.meaning.specs.Feature.{features}
use Rattle.meaning.specs.Partial.{built_sizes}
use Rattle.partial.proofs.read_marked.Given as goal

abbrev pub ghost-read_limited : goal.ghost-read_limited
ghost-read_limited a = λ sizes. features (built_sizes sizes)

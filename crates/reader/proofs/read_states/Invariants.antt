-- `read_states` counts N by the sizes.
use Rattle.meaning.specs.Feature.{features}
use Rattle.reader.proofs.read_states.Given as goal

abbrev pub ghost-read_limited : goal.ghost-read_limited
ghost-read_limited a = features

-- `keep_largest`: the start's pairs go first, then what the passes take out.
use Rattle.keeping.specs.Keep.{kept-largest}
use Rattle.keeping.proofs.keep_largest.Goals as goal

pub returns : goal.returns
returns c = λ T end read. kept-largest _ _ _ _ _ _ _ _ _ _ read c.drop_held.ensures c.settle.ensures

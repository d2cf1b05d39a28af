-- `settle_when_due`: settled or not, what the slots are once settled stays (`again-as`).
use Rattle.condition.specs.Later.{again_kept, again-as}
use Rattle.opening.proofs.settle_when_due.Goals as goal

pub returns-then-n-count-clause-kept : goal.returns-then-n-count-clause-kept
returns-then-n-count-clause-kept c = again_kept c.requires.0 _ _ c.settle_rows.ensures.words c.settle_rows.ensures.none

pub returns-then-n-count-clause-same : goal.returns-then-n-count-clause-same
returns-then-n-count-clause-same c = again-as c.requires.0 _ _ c.settle_rows.ensures.words c.settle_rows.ensures.none

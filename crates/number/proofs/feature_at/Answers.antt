-- `feature_at` reads by the kind.
use Rattle.meaning.specs.File.{feature_of}
use Rattle.number.proofs.feature_at.Goals as goal

pub returns-then-gapped : goal.returns-then-gapped
returns-then-gapped c = simp c.if-gapped.true c.gap_at.ensures

pub returns : goal.returns
unfolding feature_of
returns c = simp c.if-gapped.false c.rising_at.ensures

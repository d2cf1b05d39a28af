-- `has_unnamed`: that of some unnamed variable the set has an atom.
use mathlib.Core.Path.{◌∙◌}
use Rattle.pairs.specs.Judge.{unnamed-beside}
use Rattle.pairs.proofs.has_unnamed.Goals as goal

pub returns : goal.returns
returns c = λ befores afters. c.is_unnamed.ensures befores afters ∙ unnamed-beside _ _ _

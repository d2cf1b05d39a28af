-- `first_held`: the first listed pair that is unclosed under the state as an operator.
use Rattle.std.proofs.Common.{arith, ◌∙◌, Some, None}
use Rattle.meaning.specs.Limits.{most_atoms}
use Rattle.meaning.specs.Workspace.{words_for}
use Rattle.numbering.specs.Sizes.{atoms-most}
use Rattle.keeping.specs.Standing.{held-ready, held-possible}
use Rattle.keeping.specs.Fault.{passed, met, first-held}
use Rattle.keeping.proofs.first_held.Goals as goal

pub invariant_of-tabled : goal.invariant_of-tabled
invariant_of-tabled c = let (listed, full, all) = c.requires in let made = c.entries.ensures ∙ c.standing-operator.ensures.1 in record {
  ready = held-ready _ _ _ _ listed full made;
  held = held-possible _ _ _ _ listed full made (words_for most_atoms) (omega (arith, atoms-most _ listed.limits));
}

pub returns-in_err-pair : goal.returns-in_err-pair
returns-in_err-pair c = rw c.from_residual.ensures (first-held _ _ _ None _ c.requires.1 (c.entries.ensures ∙ c.standing-operator.ensures.1) (passed _ _ _ None c.in_err-pair.ensures.0))

pub returns : goal.returns
returns c = let (reached, told) = c.in_ok-pair.ensures in
    first-held _ _ _ (Some c.in_ok-pair.pair.feature) _ c.requires.1 (c.entries.ensures ∙ c.standing-operator.ensures.1) (met _ _ _ _ reached told)

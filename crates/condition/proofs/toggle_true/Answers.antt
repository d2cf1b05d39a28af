-- `toggle_true`: the atoms and then the pairs are all features that are true in the state.
use mathlib.Core.Path.{sym, ◌∙◌}
use Rattle.words.specs.Toggled.{toggled-join}
use Rattle.condition.specs.Ends.{true_features}
use Rattle.condition.proofs.toggle_true.Goals as goal

pub returns : goal.returns
unfolding true_features
returns c = c.toggle_pairs.ensures ∙ rw c.toggle_atoms.ensures (sym (toggled-join _ _ _))

-- `words::has`: the tested digit is the definition itself.
use mathlib.Core.Path.{refl}
use Rattle.meaning.specs.Workspace.{has}
use Rattle.words.proofs.has.Goals as goal

pub returns : goal.returns
unfolding has
returns c = refl

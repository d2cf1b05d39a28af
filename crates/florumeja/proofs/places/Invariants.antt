-- `places`: each turn copies one more place.
use mathlib.Core.Path.{◌≡◌}
use lib.ListN.{length}
use Rattle.meaning.specs.Limits.{most_variables}
use Rattle.florumeja.specs.Places.{SamePlaces}
use Rattle.florumeja.proofs.places.Given as goal

abbrev pub invariant-loop-i : goal.invariant-loop-i
invariant-loop-i l = (length l.copied ≡ most_variables) × SamePlaces l.i l.copied l.words

-- `standing`: each turn stores one variable more, and its value.
use Rattle.std.proofs.Common.{◌≡◌, length}
use Rattle.meaning.specs.Limits.{most_variables}
use Rattle.keeping.specs.Standing.{Stored}
use Rattle.keeping.proofs.standing.Given as goal

abbrev pub invariant-loop-i : goal.invariant-loop-i
invariant-loop-i l = Stored l.state l.variables l.values l.i × (length l.variables ≡ most_variables) × (length l.values ≡ most_variables)

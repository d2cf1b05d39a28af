-- `width` counts the bytes of a number: at each turn as many are counted as the number has bytes more than what is left of it.
use Prim.Native.Nat.{ℕ, ◌+◌}
use mathlib.Core.Path.{◌≡◌}
use mathlib.Core.List.{List}
use lib.ListN.{length}
use Rattle.meaning.specs.Number.{number_bytes}
use Rattle.number.specs.Laws.{Spelled}
use Rattle.number.proofs.width.Given as goal

abbrev pub invariant-loop-left : goal.invariant-loop-left
invariant-loop-left l = (rest : List ℕ) × Spelled l.left rest × (length (number_bytes l.n) + 1 ≡ l.count + length rest)

abbrev pub decreases-loop-left : goal.decreases-loop-left
decreases-loop-left l = l.left

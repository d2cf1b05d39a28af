-- `write_number` stores the bytes of a number: at each turn the bytes of what is left, stored from here on, give the same room as all of them from the start.
use Prim.Native.Nat.{ℕ, ◌+◌}
use mathlib.Core.Path.{◌≡◌}
use mathlib.Core.List.{List}
use lib.ListN.{length}
use lib.Seq.{sets}
use Rattle.meaning.specs.Number.{number_bytes}
use Rattle.number.specs.Laws.{Spelled}
use Rattle.number.proofs.write_number.Given as goal

abbrev pub invariant-loop-left : goal.invariant-loop-left
invariant-loop-left l =
    (rest : List ℕ) × Spelled l.left rest × (length l.room ≡ length l.initial.room) × (l.at + length (number_bytes l.n) ≡ l.next + length rest) × (sets l.initial.room l.at (number_bytes l.n) ≡ sets l.room l.next rest)

abbrev pub decreases-loop-left : goal.decreases-loop-left
decreases-loop-left l = l.left

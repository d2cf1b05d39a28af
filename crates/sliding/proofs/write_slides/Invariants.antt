-- `write_slides` writes the slide of a label at each turn: those of the labels left are what remains.
use Prim.Native.Nat.{ℕ, ◌+◌, ◌-◌}
use mathlib.Core.Path.{◌≡◌}
use mathlib.Core.List.{List}
use lib.ListN.{length}
use Rattle.sliding.specs.Parts.{lot_bytes, slide_bytes}
use Rattle.sliding.specs.Turns.{Turns}
use Rattle.sliding.proofs.write_slides.Given as goal

-- The bytes of the slide in a turn.
abbrev pub one_lot : List ℕ → ℕ → ℕ → ℕ → List ℕ
one_lot start p q k = lot_bytes start p q (k + 1)

abbrev pub invariant-loop-label : goal.invariant-loop-label
invariant-loop-label l =
    (k : ℕ) × (l.label ≡ k + 1) × Turns l.initial.room l.at (slide_bytes l.near l.start l.p l.q) (length l.start - 1) (one_lot l.start l.p l.q) l.room l.next k

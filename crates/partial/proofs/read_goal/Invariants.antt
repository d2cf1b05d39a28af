-- `read_goal` meets its contract: after each turn the values that are still to be read go behind those in the words, and leave what all values would.
-- The sizes, and the marks that are still to be used, stay as they were.
use Prim.Native.Nat.{◌+◌}
use mathlib.Core.Path.{◌≡◌}
use lib.ListN.{take, drop}
use lib.Seq.{sets}
use Rattle.meaning.specs.Partial.{goal_of}
use Rattle.layout.specs.Parts.{sizes_part}
use Rattle.reader.specs.Answer.{placed}
use Rattle.partial.specs.Goal.{Kept}
use Rattle.partial.proofs.read_goal.Given as goal

abbrev pub invariant-loop-i : goal.invariant-loop-i
invariant-loop-i l = Kept l.initial.header l.v l.goal l.i l.header ×
    (placed (goal_of (sizes_part l.v l.initial.header) (take l.v (drop l.goal l.initial.header)) l.bytes l.at) (sets l.initial.header l.goal)
    ≡ placed (goal_of (drop l.i (sizes_part l.v l.initial.header)) (drop l.i (take l.v (drop l.goal l.initial.header))) l.bytes l.next) (sets l.header (l.goal + l.i)))

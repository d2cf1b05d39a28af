-- `fill_named`: the values that are named so far stand in front of the table.
use Prim.Native.Nat.{◌≤◌}
use mathlib.Core.Path.{◌≡◌}
use lib.ListN.{length}
use Rattle.silencing.specs.Marks.{PickedTo}
use Rattle.silencing.proofs.fill_named.Given as goal

abbrev pub invariant-loop-value : goal.invariant-loop-value
invariant-loop-value l = (l.count ≤ length l.yielded) × (length l.named ≡ length l.initial.named) × PickedTo (length l.yielded) l.marks l.goal l.count l.named

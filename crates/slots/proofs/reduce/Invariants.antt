-- `slots::reduce`: between two turns the row is a `Turn`; words that hold what is left are its words.
use Prim.Native.Nat.{◌-◌}
use mathlib.Core.Bool.{true}
use lib.ListN.{length}
use Rattle.meaning.specs.Workspace.{has}
use Rattle.theory.specs.Words.{Words}
use Rattle.slots.specs.Area.{slots_in}
use Rattle.slots.specs.Reducing.{Turn}
use Rattle.slots.proofs.reduce.Given as goal

abbrev pub invariant-loop-p : goal.invariant-loop-p
invariant-loop-p l = Turn l.n (slots_in l.n l.area) (λ f. true) (has l.initial.row) (length l.initial.row) l.p l.row × Words l.row

abbrev pub decreases-loop-p : goal.decreases-loop-p
decreases-loop-p l = l.n - l.p

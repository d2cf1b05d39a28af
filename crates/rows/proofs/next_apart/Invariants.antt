-- `next_apart` meets its contract: what is wanted from the start is what is wanted from the place reached.
use Prim.Native.Nat.{◌≤◌}
use mathlib.Core.Path.{◌≡◌}
use Rattle.meaning.specs.Task.{size}
use Rattle.meaning.specs.Workspace.{has}
use Rattle.rows.specs.Apart.{wanted_by, wanted_from}
use Rattle.rows.proofs.next_apart.Given as goal

abbrev pub invariant-loop-variable : goal.invariant-loop-variable
invariant-loop-variable l = (l.start ≤ size l.sizes l.variable)
    × (wanted_from l.sizes (wanted_by l.sizes (has l.possible) l.base) l.u l.y ≡ wanted_from l.sizes (wanted_by l.sizes (has l.possible) l.base) l.variable l.start)

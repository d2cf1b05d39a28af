-- `is_touched`: the entries that are left tell the rest.
use Rattle.std.proofs.Common.{◌≡◌}
use Rattle.meaning.specs.Workspace.{has}
use Rattle.theory.specs.Mending.{touched_in}
use Rattle.keeping.specs.Marks.{left-from}
use Rattle.keeping.proofs.is_touched.Given as goal

abbrev pub invariant-loop-k : goal.invariant-loop-k
invariant-loop-k l = left-from l.sizes (has l.touched) l.entries l.k l.met ≡ touched_in l.sizes (has l.touched) l.entries

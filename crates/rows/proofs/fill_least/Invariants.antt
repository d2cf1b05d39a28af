-- `fill_least` meets its contract: the loop writes the least values from the front (`Written`).
use Rattle.meaning.specs.Workspace.{has}
use Rattle.words.specs.Written.{Written}
use Rattle.rows.specs.Base.{least_values}
use Rattle.rows.proofs.fill_least.Given as goal

abbrev pub invariant-loop-u : goal.invariant-loop-u
invariant-loop-u l = Written l.initial.base (least_values l.sizes (has l.possible)) l.u l.base

-- `atoms_from` meets its contract: from variable k on the atoms are counted, and from j on too once k is there.
use Rattle.std.proofs.Common.{◌≤◌}
use Rattle.numbering.specs.Blocks.{From}
use Rattle.numbering.proofs.atoms_from.Given as goal

abbrev pub invariant-loop-k : goal.invariant-loop-k
invariant-loop-k l = (l.i ≤ l.k) × From l.sizes l.k l.sum × (l.k ≤ l.j → From l.sizes l.j l.second)

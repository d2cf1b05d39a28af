-- `fill_variable`: after y turns the free atoms of the first y values are added; a value that is not possible adds nothing.
use Rattle.meaning.specs.Workspace.{has}
use Rattle.pairs.specs.Fill.{free_atoms, Added}
use Rattle.pairs.proofs.fill_variable.Given as goal

abbrev pub invariant-loop-y : goal.invariant-loop-y
invariant-loop-y l = Added l.initial.possible (free_atoms l.sizes (has l.pairs) l.entries l.u l.y) l.possible

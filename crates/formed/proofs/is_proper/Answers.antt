-- `formed::is_proper`: all the atoms are below the count of features, which is within its limit.
use Rattle.formed.specs.Parts.{cut-bounds}
use Rattle.formed.proofs.is_proper.Goals as goal

pub are_within-requires : goal.are_within-requires
are_within-requires c = (c.requires.words, rw (← c.atoms.ensures) at (cut-bounds c.requires).0, (cut-bounds c.requires).1)

-- `words::next_held`: from `start` on the words that are done hold nothing (`Clear`); the lowest one of the first word that is not 0 is next.
use Rattle.std.proofs.Common.{◌*◌, ◌≤◌}
use Rattle.words.specs.Next.{Clear, held}
use Rattle.words.proofs.next_held.Given as goal

abbrev pub invariant-loop-i : goal.invariant-loop-i
invariant-loop-i g l = (l.start ≤ l.i * 64) × Clear (held g.at) l.start (l.i * 64)

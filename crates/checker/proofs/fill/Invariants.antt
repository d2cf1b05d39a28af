-- `fill`: what was read so far lies within the room.
use Rattle.std.proofs.Common.{◌-◌, ◌≤◌, length}
use Rattle.checker.proofs.fill.Given as goal

abbrev pub invariant-loop-count : goal.invariant-loop-count
invariant-loop-count l = l.count ≤ length l.bytes

abbrev pub decreases-loop-count : goal.decreases-loop-count
decreases-loop-count l = length l.initial.bytes - l.count

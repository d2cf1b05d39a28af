-- `bytes_read`: what is read so far and what is still to be read come to the whole.
use Rattle.std.proofs.Common.{◌≡◌, ◌+◌, ◌-◌, ◌≤◌, length, ◌⊎◌}
use Rattle.meaning.specs.Limits.{most_groups}
use Rattle.meaning.specs.Number.{groups_read, bytes_read}
use Rattle.number.proofs.bytes_read.Given as goal

abbrev pub invariant-loop-i : goal.invariant-loop-i
invariant-loop-i l = (l.at + l.i ≤ length l.bytes ⊎ (l.i ≡ 0)) × (bytes_read l.bytes l.at ≡ l.i + groups_read (most_groups - l.i) l.bytes (l.at + l.i))

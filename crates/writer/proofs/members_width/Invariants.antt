-- `members_width` adds up widths from member to member: at each turn the bytes of the members ahead make up the rest.
use Prim.Native.Nat.{◌+◌, ◌*◌, ◌-◌, ◌≤◌}
use mathlib.Core.Path.{◌≡◌}
use lib.ListN.{length}
use Rattle.meaning.specs.Limits.{word_bits}
use Rattle.meaning.specs.Number.{number_bytes}
use Rattle.meaning.specs.File.{kind_if, bytes_of, numbers_for}
use Rattle.meaning.specs.Workspace.{has}
use Rattle.words.specs.Members.{Reached, members_in}
use Rattle.writer.specs.Walk.{ahead}
use Rattle.writer.proofs.members_width.Given as goal

abbrev pub invariant-loop-f : goal.invariant-loop-f
invariant-loop-f l =
    let n = word_bits * length l.words in
    let kind = kind_if l.gapped in
    Reached (has l.words) n l.f × (l.least ≤ l.f) × (length (bytes_of number_bytes (numbers_for kind 0 (members_in l.words))) ≡ l.sum + length (ahead kind (has l.words) n l.least l.f))

abbrev pub decreases-loop-f : goal.decreases-loop-f
decreases-loop-f l = word_bits * length l.words - l.f

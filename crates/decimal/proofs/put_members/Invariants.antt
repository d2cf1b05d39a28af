-- `put_members` goes from member to member: at each turn the members below the place reached are written.
use Prim.Native.Nat.{◌*◌, ◌-◌}
use mathlib.Core.Path.{◌≡◌}
use lib.ListN.{length}
use Rattle.meaning.specs.Limits.{word_bits}
use Rattle.meaning.specs.Line.{words_in}
use Rattle.meaning.specs.Workspace.{has}
use Rattle.theory.specs.Run.{members}
use Rattle.decimal.specs.Put.{Put}
use Rattle.words.specs.Members.{Reached}
use Rattle.decimal.proofs.put_members.Given as goal

abbrev pub invariant-loop-f : goal.invariant-loop-f
invariant-loop-f l =
    Reached (has l.words) (word_bits * length l.words) l.f × (length l.line ≡ length l.initial.line) × Put l.initial.line l.at (words_in (members l.f (has l.words))) l.next l.line

abbrev pub decreases-loop-f : goal.decreases-loop-f
decreases-loop-f l = word_bits * length l.words - l.f

-- `deliver_set` refuses a room that is too small, and otherwise writes mark and set at the front.
use Prim.Native.Nat.{ℕ, ◌+◌, ◌*◌, ◌≤◌}
use mathlib.Core.Path.{◌≡◌, refl, sym}
use mathlib.Core.List.{List, [], append-nil}
use native.Mathlib.Omega.{arith}
use lib.ListN.{length, length-append}
use Rattle.meaning.specs.Limits.{word_bits}
use Rattle.meaning.specs.File.{kind_if, list_bytes, mark_bytes, weight_bytes_as}
use Rattle.meaning.specs.Workspace.{has}
use Rattle.words.specs.Members.{members_in, members-few}
use Rattle.writer.specs.Widths.{mark-few, features-few}
use Rattle.writer.specs.Remains.{Remains, remains-all, remains-after, remains-none, delivered-small, delivered-done}
use Rattle.writer.proofs.deliver_set.Goals as goal
use Rattle.writer.proofs.deliver_set.Goals.{After-set_width, After-write_mark-next, Else-room-mark_width, Start}

abbrev members : (s : Start) → List ℕ
members s = list_bytes (kind_if s.args.gapped) (members_in s.args.words.now)

abbrev file : (s : Start) → List ℕ
file s = weight_bytes_as (kind_if s.args.gapped) (members_in s.args.words.now)

whole : (c : After-set_width) → c.mark_width.result + c.set_width.result ≡ length (file (goal.at.After-set_width c).Start)
unfolding weight_bytes_as
whole c =
    omega (arith, c.mark_width.ensures, c.set_width.ensures, length-append (mark_bytes (kind_if c.args.gapped)) (members (goal.at.After-set_width c).Start))

pub overflow_add-mark_width : goal.overflow_add-mark_width
overflow_add-mark_width c =
    let kind = kind_if c.args.gapped in
    let words = c.args.words.now in
    omega (arith, c.requires, c.mark_width.ensures, mark-few kind, c.set_width.ensures, features-few kind (members_in words), members-few (has words) (word_bits * length words))

pub returns-then-room-mark_width : goal.returns-then-room-mark_width
returns-then-room-mark_width c =
    let room = c.args.room.now in
    sym (delivered-small (file (goal.at.returns-then-room-mark_width c).Start) room (omega (arith, whole (goal.at.returns-then-room-mark_width c).After-set_width, c.if-room-mark_width.true)))

-- Where the room is long enough, all remains; then the list.
fits : (c : Else-room-mark_width) → length (file (goal.at.Else-room-mark_width c).Start) ≤ length c.args.room.now
fits c = omega (arith, whole (goal.at.Else-room-mark_width c).After-set_width, c.if-room-mark_width.false)

all : (c : Else-room-mark_width) → Remains c.args.room.now 0 (file (goal.at.Else-room-mark_width c).Start) c.args.room.now 0 (file (goal.at.Else-room-mark_width c).Start)
all c = remains-all _ 0 _ (omega (arith, fits c))

after-mark : (c : After-write_mark-next) → Remains c.args.room.now 0 (file (goal.at.After-write_mark-next c).Start) c.write_mark-next.new.room c.write_mark-next.result (members (goal.at.After-write_mark-next c).Start)
unfolding weight_bytes_as
after-mark c =
    remains-after (all (goal.at.After-write_mark-next c).Else-room-mark_width) (mark_bytes (kind_if c.args.gapped)) _ _ _ refl (omega (arith, c.write_mark-next.ensures.after)) c.write_mark-next.ensures.written

pub returns : goal.returns
returns c =
    let done = remains-none (remains-after (after-mark (goal.at.returns c).After-write_mark-next) (members (goal.at.returns c).Start) [] _ _ (sym (append-nil (members (goal.at.returns c).Start))) c.write_set.ensures.after c.write_set.ensures.written) refl in
    delivered-done (file (goal.at.returns c).Start) c.args.room.now _ _ (fits (goal.at.returns c).Else-room-mark_width) done.0 done.1

-- `write_set` writes the count and then the members, until nothing remains.
use Prim.Native.Nat.{ℕ, ◌*◌}
use mathlib.Core.Path.{refl, sym, ap, ◌∙◌}
use mathlib.Core.List.{List, [], ◌++◌, append-nil}
use native.Mathlib.Omega.{arith}
use lib.ListN.{length}
use Rattle.meaning.specs.Limits.{word_bits}
use Rattle.meaning.specs.Number.{number_bytes}
use Rattle.meaning.specs.Workspace.{has}
use Rattle.meaning.specs.File.{kind_if, bytes_of, numbers_for, list_bytes}
use Rattle.words.specs.Members.{members_in, members-few}
use Rattle.writer.specs.Widths.{features-length, features-split}
use Rattle.writer.specs.Remains.{Remains, remains-all, part-fits, remains-after, remains-none}
use Rattle.writer.proofs.write_set.Goals as goal
use Rattle.writer.proofs.write_set.Goals.{After-write_number-next, Start}

-- The bytes of the members.
abbrev spelled : (s : Start) → List ℕ
spelled s = let a = s.args in bytes_of number_bytes (numbers_for (kind_if a.gapped) 0 (members_in a.words.now))

-- After the count the members remain.
after-count : (c : After-write_number-next) → let a = c.args in
    Remains a.room.now a.at (list_bytes (kind_if a.gapped) (members_in a.words.now)) c.write_number-next.new.room c.write_number-next.result (spelled (goal.at.After-write_number-next c).Start)
after-count c =
    let members = members_in c.args.words.now in
    let count = c.count in
    let split = features-split (kind_if c.args.gapped) members ∙ ap (λ n. number_bytes n ++ spelled (goal.at.After-write_number-next c).Start) (sym count.ensures) in
    remains-after (remains-all _ _ _ c.requires.1) (number_bytes count.result) (spelled (goal.at.After-write_number-next c).Start) _ _ split c.write_number-next.ensures.after c.write_number-next.ensures.written

pub write_number-next-requires : goal.write_number-next-requires
write_number-next-requires c =
    let pre = c.requires in
    let words = c.args.words.now in (
      omega (arith, pre.0, c.count.ensures, members-few (has words) (word_bits * length words)),
      omega (arith, pre.1, ap (λ n. length (number_bytes n)) c.count.ensures, features-length (kind_if c.args.gapped) (members_in words)),
    )

pub write_members-requires : goal.write_members-requires
write_members-requires c =
    let members = spelled (goal.at.write_members-requires c).Start in
    (c.requires.0, part-fits (after-count (goal.at.write_members-requires c).After-write_number-next) members [] (sym (append-nil members)))

pub returns : goal.returns
returns c =
    let members = spelled (goal.at.returns c).Start in
    let told = remains-none (remains-after (after-count (goal.at.returns c).After-write_number-next) members [] _ _ (sym (append-nil members)) c.write_members.ensures.after c.write_members.ensures.written) refl in
    record { after = told.0; written = told.1 }

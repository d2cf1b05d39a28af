-- `write_rest` writes pairs, count and operators one after the other, until nothing remains.
use Prim.Native.Nat.{ℕ}
use mathlib.Core.Path.{refl, sym}
use mathlib.Core.List.{List, [], ◌++◌, append-nil}
use Rattle.meaning.specs.Number.{number_bytes}
use Rattle.meaning.specs.File.{plain, list_bytes}
use Rattle.words.specs.Members.{members_in}
use Rattle.writer.specs.Remains.{Remains, remains-all, part-fits, remains-after, remains-none}
use Rattle.silencing.specs.Parts.{rest_bytes}
use Rattle.silencing.proofs.write_rest.Goals as goal
use Rattle.silencing.proofs.write_rest.Goals.{After-write_number-third, After-write_set-second, Start}

abbrev due : (s : Start) → List ℕ
due s = rest_bytes s.args.pairs.now s.args.count s.args.own.now

-- All remains; then count and operators; then the operators.
whole : (s : Start) → Remains s.args.room.now s.args.at (due s) s.args.room.now s.args.at (due s)
whole s = remains-all _ _ _ s.requires.2

after-pairs : (c : After-write_set-second) → Remains c.args.room.now c.args.at (due (goal.at.After-write_set-second c).Start) c.write_set-second.new.room c.write_set-second.result (number_bytes c.args.count ++ c.args.own.now)
unfolding rest_bytes
after-pairs c =
    remains-after (whole (goal.at.After-write_set-second c).Start) (list_bytes plain (members_in c.args.pairs.now)) _ _ _ refl c.write_set-second.ensures.after c.write_set-second.ensures.written

after-count : (c : After-write_number-third) → Remains c.args.room.now c.args.at (due (goal.at.After-write_number-third c).Start) c.write_number-third.new.room c.write_number-third.result c.args.own.now
after-count c =
    remains-after (after-pairs (goal.at.After-write_number-third c).After-write_set-second) (number_bytes c.args.count) _ _ _ refl c.write_number-third.ensures.after c.write_number-third.ensures.written

pub write_set-second-requires : goal.write_set-second-requires
unfolding rest_bytes
write_set-second-requires c = (c.requires.0, part-fits (whole (goal.at.write_set-second-requires c).Start) (list_bytes plain (members_in c.args.pairs.now)) _ refl)

pub write_number-third-requires : goal.write_number-third-requires
write_number-third-requires c =
    (c.requires.1, part-fits (after-pairs (goal.at.write_number-third-requires c).After-write_set-second) (number_bytes c.args.count) _ refl)

pub write_bytes-requires : goal.write_bytes-requires
write_bytes-requires c =
    let own = c.args.own.now in part-fits (after-count (goal.at.write_bytes-requires c).After-write_number-third) own [] (sym (append-nil own))

pub returns : goal.returns
returns c =
    let own = c.args.own.now in
    let told = remains-none (remains-after (after-count (goal.at.returns c).After-write_number-third) own [] _ _ (sym (append-nil own)) c.write_bytes.ensures.after c.write_bytes.ensures.written) refl in
    record { after = told.0; written = told.1 }

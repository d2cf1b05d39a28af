-- `write_front` writes five parts one after the other, until nothing remains.
use Prim.Native.Nat.{ℕ}
use mathlib.Core.Path.{refl, sym}
use mathlib.Core.List.{List, [], ◌++◌, append-nil}
use native.Mathlib.Omega.{arith}
use Rattle.meaning.specs.Number.{number_bytes}
use Rattle.meaning.specs.File.{kind_if, bytes_of, counted, list_bytes, mark_bytes}
use Rattle.words.specs.Members.{members_in}
use Rattle.writer.specs.Front.{front_bytes}
use Rattle.writer.specs.Remains.{Remains, remains-all, part-fits, remains-after, remains-none}
use Rattle.writer.proofs.write_front.Goals as goal
use Rattle.writer.proofs.write_front.Goals.{After-write_list-second, After-write_mark-first, After-write_numbers-fourth, After-write_numbers-third, Start}

abbrev due : (s : Start) → List ℕ
due s = let a = s.args in front_bytes (kind_if a.gapped) a.sizes.now a.start.now a.goal.now (members_in a.pairs.now)

abbrev pairs : (s : Start) → List ℕ
pairs s = list_bytes (kind_if s.args.gapped) (members_in s.args.pairs.now)

-- All remains; then all behind the mark; then start, goal and pairs; then goal and pairs; then the pairs.
whole : (s : Start) → Remains s.args.room.now 0 (due s) s.args.room.now 0 (due s)
whole s = remains-all _ 0 _ (omega (arith, s.requires.1))

after-mark : (c : After-write_mark-first) → Remains c.args.room.now 0 (due (goal.at.After-write_mark-first c).Start) c.write_mark-first.new.room c.write_mark-first.result
    (counted number_bytes c.args.sizes.now ++ (bytes_of number_bytes c.args.start.now ++ (bytes_of number_bytes c.args.goal.now ++ pairs (goal.at.After-write_mark-first c).Start)))
unfolding front_bytes
after-mark c =
    remains-after (whole (goal.at.After-write_mark-first c).Start) (mark_bytes (kind_if c.args.gapped)) _ _ _ refl (omega (arith, c.write_mark-first.ensures.after)) c.write_mark-first.ensures.written

after-sizes : (c : After-write_list-second) → Remains c.args.room.now 0 (due (goal.at.After-write_list-second c).Start) c.write_list-second.new.room c.write_list-second.result (bytes_of number_bytes c.args.start.now ++ (bytes_of number_bytes c.args.goal.now ++ pairs (goal.at.After-write_list-second c).Start))
after-sizes c =
    remains-after (after-mark (goal.at.After-write_list-second c).After-write_mark-first) (counted number_bytes c.args.sizes.now) _ _ _ refl c.write_list-second.ensures.after c.write_list-second.ensures.written

after-start : (c : After-write_numbers-third) → Remains c.args.room.now 0 (due (goal.at.After-write_numbers-third c).Start) c.write_numbers-third.new.room c.write_numbers-third.result (bytes_of number_bytes c.args.goal.now ++ pairs (goal.at.After-write_numbers-third c).Start)
after-start c =
    remains-after (after-sizes (goal.at.After-write_numbers-third c).After-write_list-second) (bytes_of number_bytes c.args.start.now) _ _ _ refl c.write_numbers-third.ensures.after c.write_numbers-third.ensures.written

after-goal : (c : After-write_numbers-fourth) → Remains c.args.room.now 0 (due (goal.at.After-write_numbers-fourth c).Start) c.write_numbers-fourth.new.room c.write_numbers-fourth.result (pairs (goal.at.After-write_numbers-fourth c).Start)
after-goal c =
    remains-after (after-start (goal.at.After-write_numbers-fourth c).After-write_numbers-third) (bytes_of number_bytes c.args.goal.now) _ _ _ refl c.write_numbers-fourth.ensures.after c.write_numbers-fourth.ensures.written

pub write_mark-first-requires : goal.write_mark-first-requires
unfolding front_bytes
write_mark-first-requires c = omega (arith, part-fits (whole (goal.at.write_mark-first-requires c).Start) (mark_bytes (kind_if c.args.gapped)) _ refl)

pub write_list-second-requires : goal.write_list-second-requires
write_list-second-requires c =
    (c.requires.0.0, part-fits (after-mark (goal.at.write_list-second-requires c).After-write_mark-first) (counted number_bytes c.args.sizes.now) _ refl)

pub write_numbers-third-requires : goal.write_numbers-third-requires
write_numbers-third-requires c =
    (c.requires.0.1.1, part-fits (after-sizes (goal.at.write_numbers-third-requires c).After-write_list-second) (bytes_of number_bytes c.args.start.now) _ refl)

pub write_numbers-fourth-requires : goal.write_numbers-fourth-requires
write_numbers-fourth-requires c =
    (c.requires.0.2.1, part-fits (after-start (goal.at.write_numbers-fourth-requires c).After-write_numbers-third) (bytes_of number_bytes c.args.goal.now) _ refl)

pub write_set-requires : goal.write_set-requires
write_set-requires c =
    (c.requires.0.3, part-fits (after-goal (goal.at.write_set-requires c).After-write_numbers-fourth) (pairs (goal.at.write_set-requires c).Start) [] (sym (append-nil (pairs (goal.at.write_set-requires c).Start))))

pub returns : goal.returns
returns c =
    let all = remains-none (remains-after (after-goal (goal.at.returns c).After-write_numbers-fourth) (pairs (goal.at.returns c).Start) [] _ _ (sym (append-nil (pairs (goal.at.returns c).Start))) c.write_set.ensures.after c.write_set.ensures.written) refl in
    record { after = omega (arith, all.0); written = all.1 }

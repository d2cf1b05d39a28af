-- `write_entry` writes its three numbers one after another, until nothing remains.
use mathlib.Core.Path.{refl, sym}
use mathlib.Core.List.{[], ◌++◌, append-nil}
use native.Mathlib.Omega.{arith}
use Rattle.meaning.specs.Number.{number_bytes}
use Rattle.meaning.specs.File.{entry_bytes}
use Rattle.writer.specs.Widths.{entry_length}
use Rattle.writer.specs.Remains.{remains-all, remains-after, remains-none}
use Rattle.writer.proofs.write_entry.Goals as goal

pub write_number-second-requires : goal.write_number-second-requires
write_number-second-requires c =
    (c.requires.0.0, omega (arith, c.requires.1, entry_length c.args.entry))

pub write_number-third-requires : goal.write_number-third-requires
write_number-third-requires c =
    (c.requires.0.1, omega (arith, c.requires.1, entry_length c.args.entry))

pub write_number-requires : goal.write_number-requires
write_number-requires c =
    (c.requires.0.2, omega (arith, c.requires.1, entry_length c.args.entry))

pub returns : goal.returns
unfolding entry_bytes
returns c =
    let a = c.args in
    let first = number_bytes a.entry.variable in
    let second = number_bytes a.entry.before in
    let third = number_bytes a.entry.after in
    let all = remains-all a.room.now a.at (first ++ (second ++ third)) c.requires.1 in
    let two = remains-after all first (second ++ third) _ _ refl c.write_number-second.ensures.after c.write_number-second.ensures.written in
    let one = remains-after two second third _ _ refl c.write_number-third.ensures.after c.write_number-third.ensures.written in
    let told = remains-none (remains-after one third [] _ _ (sym (append-nil third)) c.write_number.ensures.after c.write_number.ensures.written) refl in
    record { after = told.0; written = told.1 }

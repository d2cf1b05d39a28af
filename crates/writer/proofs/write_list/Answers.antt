-- `write_list` writes the count and then the numbers, until nothing remains.
use mathlib.Core.Path.{refl, sym}
use mathlib.Core.List.{[], append-nil}
use native.Mathlib.Omega.{arith}
use lib.ListN.{length}
use Rattle.meaning.specs.Number.{number_bytes}
use Rattle.meaning.specs.File.{bytes_of, counted}
use Rattle.writer.specs.Widths.{counted-length}
use Rattle.writer.specs.Remains.{remains-all, remains-after, remains-none}
use Rattle.writer.proofs.write_list.Goals as goal

pub write_number-next-requires : goal.write_number-next-requires
write_number-next-requires c = (c.requires.0.0, omega (arith, c.requires.1, counted-length number_bytes c.args.values.now))

pub write_numbers-requires : goal.write_numbers-requires
write_numbers-requires c =
    (c.requires.0.1, omega (arith, c.requires.1, counted-length number_bytes c.args.values.now))

pub returns : goal.returns
unfolding counted
returns c =
    let a = c.args in
    let values = a.values.now in
    let rest = bytes_of number_bytes values in
    let all = remains-all a.room.now a.at (counted number_bytes values) c.requires.1 in
    let one = remains-after all (number_bytes (length values)) rest _ _ refl c.write_number-next.ensures.after c.write_number-next.ensures.written in
    let told = remains-none (remains-after one rest [] _ _ (sym (append-nil rest)) c.write_numbers.ensures.after c.write_numbers.ensures.written) refl in
    record { after = told.0; written = told.1 }

-- `write_operator` writes the count, and then an entry at each turn: the bytes of the entries left are what remains.
use mathlib.Core.Path.{refl}
use native.Mathlib.Omega.{arith}
use lib.ListN.{length}
use Rattle.meaning.specs.Number.{number_bytes}
use Rattle.meaning.specs.File.{bytes_of, counted, entry_bytes, operator_bytes}
use Rattle.theory.specs.Walk.{entry_at}
use Rattle.theory.specs.Given.{entry_of}
use Rattle.writer.specs.Widths.{bytes-more, bytes-none, operator-length}
use Rattle.writer.specs.Remains.{remains-all, part-fits, remains-after, remains-none}
use Rattle.writer.proofs.write_operator.Goals as goal

pub write_number-next-requires : goal.write_number-next-requires
write_number-next-requires c = (c.requires.0.0, omega (arith, c.requires.1, operator-length c.args.entries.now))

pub loop-entry-init : goal.loop-entry-init
unfolding operator_bytes counted
loop-entry-init c =
    let o = c.args.entries.now in
    remains-after (remains-all _ c.args.at (operator_bytes o) c.requires.1) (number_bytes (length o)) (bytes_of entry_bytes o) _ _ refl c.write_number-next.ensures.after c.write_number-next.ensures.written

pub write_entry-next-requires : goal.write_entry-next-requires
write_entry-next-requires c =
    let turn = c.loop-entry in
    let o = c.args.entries.now in
    let more = bytes-more entry_bytes o turn.entry-index (entry_of 0 0 0) c.loop-entry-test.true in
    (c.requires.0.1 turn.entry-index c.loop-entry-test.true, part-fits turn.invariant (entry_bytes (entry_at o turn.entry-index)) _ more)

pub loop-entry-preserved : goal.loop-entry-preserved
loop-entry-preserved c =
    let turn = c.loop-entry in
    let o = c.args.entries.now in
    let more = bytes-more entry_bytes o turn.entry-index (entry_of 0 0 0) c.loop-entry-test.true in
    remains-after turn.invariant (entry_bytes (entry_at o turn.entry-index)) _ _ _ more c.write_entry-next.ensures.after c.write_entry-next.ensures.written

pub returns : goal.returns
returns c = let told = remains-none c.loop-entry.invariant (bytes-none entry_bytes c.args.entries.now c.loop-entry.entry-index c.loop-entry-test.false) in record { after = told.0; written = told.1 }

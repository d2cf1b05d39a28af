-- `write_numbers` writes a number at each turn: the bytes of the numbers left are what remains.
use lib.ListN.{get_or}
use Rattle.meaning.specs.Number.{number_bytes}
use Rattle.writer.specs.Widths.{bytes-more, bytes-none}
use Rattle.writer.specs.Remains.{part-fits, remains-after, remains-none}
use Rattle.writer.proofs.write_numbers.Goals as goal

pub write_number-next-requires : goal.write_number-next-requires
write_number-next-requires c =
    let turn = c.loop-value in
    let values = c.args.values.now in
    let more = bytes-more number_bytes values turn.value-index 0 c.loop-value-test.true in
    (c.requires.0 turn.value-index c.loop-value-test.true, part-fits turn.invariant (number_bytes (get_or values turn.value-index 0)) _ more)

pub loop-value-preserved : goal.loop-value-preserved
loop-value-preserved c =
    let turn = c.loop-value in
    let values = c.args.values.now in
    let more = bytes-more number_bytes values turn.value-index 0 c.loop-value-test.true in
    remains-after turn.invariant (number_bytes (get_or values turn.value-index 0)) _ _ _ more c.write_number-next.ensures.after c.write_number-next.ensures.written

pub returns : goal.returns
returns c = let told = remains-none c.loop-value.invariant (bytes-none number_bytes c.args.values.now c.loop-value.value-index c.loop-value-test.false) in record { after = told.0; written = told.1 }

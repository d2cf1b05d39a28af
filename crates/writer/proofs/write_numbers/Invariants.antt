-- `write_numbers` writes a number at each turn: the bytes of the numbers left are what remains.
use lib.ListN.{drop}
use Rattle.meaning.specs.Number.{number_bytes}
use Rattle.meaning.specs.File.{bytes_of}
use Rattle.writer.specs.Remains.{Remains}
use Rattle.writer.proofs.write_numbers.Given as goal

abbrev pub invariant-loop-value : goal.invariant-loop-value
invariant-loop-value l = Remains l.initial.room l.at (bytes_of number_bytes l.values) l.room l.next (bytes_of number_bytes (drop l.value-index l.values))

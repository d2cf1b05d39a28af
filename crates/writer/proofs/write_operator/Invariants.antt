-- `write_operator` writes the count, and then an entry at each turn: the bytes of the entries left are what remains.
use lib.ListN.{drop}
use Rattle.meaning.specs.File.{bytes_of, entry_bytes, operator_bytes}
use Rattle.writer.specs.Remains.{Remains}
use Rattle.writer.proofs.write_operator.Given as goal

abbrev pub invariant-loop-entry : goal.invariant-loop-entry
invariant-loop-entry l = Remains l.fn.room l.at (operator_bytes l.entries) l.room l.next (bytes_of entry_bytes (drop l.entry-index l.entries))

-- `read_entries` reads entry by entry: at each turn the entries that are held, with those that are read from here on, are all entries.
use Rattle.std.proofs.Common.{◌≡◌, ◌-◌}
use Rattle.meaning.specs.File.{entries_of}
use Rattle.operator.specs.Known.{Room}
use Rattle.operator.specs.Records.{first_of}
use Rattle.operator.specs.Laws.{behind}
use Rattle.operator.proofs.read_entries.Given as goal

abbrev pub invariant-loop-k : goal.invariant-loop-k
invariant-loop-k l =
    (l.operator.count ≡ l.count)
    × Room l.operator
    × (entries_of l.sizes l.count 0 l.bytes l.at ≡ behind (first_of l.k l.operator) (entries_of l.sizes (l.count - l.k) l.least l.bytes l.next))

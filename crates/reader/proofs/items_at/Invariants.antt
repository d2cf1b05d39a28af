-- `items_at` meets its contract: after each turn the numbers that are still to be read go behind those in the words, and leave what all numbers would.
-- The bounds that are still to be used stay as they were.
use Prim.Native.Nat.{◌+◌}
use mathlib.Core.Path.{◌≡◌}
use lib.ListN.{length, take, drop}
use lib.Seq.{sets}
use Rattle.meaning.specs.File.{items_of}
use Rattle.number.specs.Answers.{reason_of}
use Rattle.reader.specs.Answer.{placed}
use Rattle.reader.specs.Lists.{Unread}
use Rattle.reader.proofs.items_at.Given as goal

abbrev pub invariant-loop-i : goal.invariant-loop-i
invariant-loop-i l = (length l.words ≡ length l.initial.words) × Unread l.bounds l.count l.i l.initial.words l.words ×
    (placed (items_of l.low (reason_of l.reason) (take l.count (drop l.bounds l.initial.words)) l.bytes l.at) (sets l.initial.words l.to)
    ≡ placed (items_of l.low (reason_of l.reason) (drop l.i (take l.count (drop l.bounds l.initial.words))) l.bytes l.next) (sets l.words (l.to + l.i)))

-- `features_at` meets its contract: after each turn the features that are still to be read are toggled in the words, and leave what all features would.
use Prim.Native.Nat.{◌-◌}
use mathlib.Core.Path.{◌≡◌}
use lib.ListN.{length}
use Rattle.meaning.specs.File.{kind_if, features_of}
use Rattle.reader.specs.Answer.{placed}
use Rattle.words.specs.Toggled.{toggled_all}
use Rattle.reader.proofs.features_at.Given as goal

abbrev pub invariant-loop : goal.invariant-loop
invariant-loop l = (length l.words ≡ length l.initial.words) ×
    (placed (features_of (kind_if l.gapped) l.count l.low l.high 0 l.bytes l.at) (toggled_all l.initial.words) ≡ placed (features_of (kind_if l.gapped) (l.count - l.counter) l.low l.high l.least l.bytes l.next) (toggled_all l.words))

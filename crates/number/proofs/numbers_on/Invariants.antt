-- `numbers_on` meets its contract: after each turn the numbers that are still to be passed over lead from the place reached to where all would.
use Rattle.std.proofs.Common.{◌≡◌, ◌-◌}
use Rattle.meaning.specs.Number.{numbers_on}
use Rattle.number.proofs.numbers_on.Given as goal

abbrev pub invariant-loop : goal.invariant-loop
invariant-loop l = numbers_on l.count l.bytes l.at ≡ numbers_on (l.count - l.counter) l.bytes l.place

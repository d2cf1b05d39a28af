-- `operators_at`: after each operator, those that are left lead to the same answer.
use Rattle.std.proofs.Common.{◌≡◌, ◌-◌}
use Rattle.meaning.specs.File.{operators_of}
use Rattle.number.specs.Answers.{place_of}
use Rattle.task.proofs.operators_at.Given as goal

abbrev pub invariant-loop : goal.invariant-loop
invariant-loop l =
    place_of (operators_of l.sizes l.count l.bytes l.at) ≡ place_of (operators_of l.sizes (l.count - l.counter) l.bytes l.next)

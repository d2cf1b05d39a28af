-- `first_broken`: the list is closed under the operators that the walk has passed.
use Rattle.std.proofs.Common.{sym, ◌≡◌}
use Rattle.meaning.specs.Number.{got}
use Rattle.meaning.specs.File.{operator_of}
use Rattle.keeping.specs.Turn.{read-few, read-ready}
use Rattle.keeping.specs.Fault.{none-broken, closed-next, broken-here, broken-never}
use Rattle.keeping.proofs.first_broken.Goals as goal
use Rattle.keeping.proofs.first_broken.Goals.{After-entries-entries}

-- What stands at the place, as the code holds it.
read : (c : After-entries-entries) → operator_of c.args.sizes.now c.args.bytes.now c.loop-k.next ≡ got c.entries-entries.result c.in-Ok.read.next
read c = rw c.entries-entries.ensures (sym c.in-Ok.ensures)

pub returns-in_default : goal.returns-in_default
returns-in_default c = λ T stands. absurd (broken-never T _ _ _ _ stands _ _ _ (c.loop-k.invariant T stands) c.loop-k-test.true _ _ (sym c.in_default.ensures))

pub entries-entries-requires : goal.entries-entries-requires
entries-entries-requires c = read-few _ _ _ _ _ _ c.requires.0 c.in-Ok.ensures

pub unclosed_under-requires : goal.unclosed_under-requires
unclosed_under-requires c = (rw c.entries-entries.ensures (read-ready _ _ _ _ _ _ c.requires.0 c.in-Ok.ensures), c.requires.1)

pub returns-in-Some : goal.returns-in-Some
returns-in-Some c = λ T stands. broken-here T _ _ _ _ stands _ _ _ (c.loop-k.invariant T stands) c.loop-k-test.true _ _ (read (goal.at.returns-in-Some c).After-entries-entries) _ c.in-Some.ensures

pub loop-k-preserved : goal.loop-k-preserved
loop-k-preserved c = λ T stands. closed-next T _ _ _ _ stands _ _ _ (c.loop-k.invariant T stands) c.loop-k-test.true _ _ (read (goal.at.loop-k-preserved c).After-entries-entries) c.in_default-unclosed_under.ensures

pub returns : goal.returns
returns c = λ T stands. none-broken T _ _ _ _ stands _ _ _ c.loop-k-test.false (c.loop-k.invariant T stands)

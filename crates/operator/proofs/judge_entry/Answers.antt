-- `judge_entry` tests what `entries_judged` tests of one entry, in the same order.
use borrow.Author.Tests.{lt-ltb, le-ltb, le-leb, lt-leb}
use Rattle.meaning.specs.Answer.{entries_judged}
use Rattle.operator.proofs.judge_entry.Goals as goal

pub returns-then-sizes-entry : goal.returns-then-sizes-entry
unfolding entries_judged
returns-then-sizes-entry c = simp (le-ltb _ _ c.if-sizes-entry.true)

pub returns-then-entry-least : goal.returns-then-entry-least
unfolding entries_judged
returns-then-entry-least c = simp (lt-ltb _ _ c.if-sizes-entry.false, lt-leb _ _ c.if-entry-least.true)

pub returns-then-size-entry : goal.returns-then-size-entry
unfolding entries_judged
returns-then-size-entry c = simp (lt-ltb _ _ c.if-sizes-entry.false, le-leb _ _ c.if-entry-least.false, le-ltb _ _ c.if-size-entry.true)

pub returns-then-size-entry-2 : goal.returns-then-size-entry-2
unfolding entries_judged
returns-then-size-entry-2 c = simp (lt-ltb _ _ c.if-sizes-entry.false, le-leb _ _ c.if-entry-least.false, lt-ltb _ _ c.if-size-entry.false, le-ltb _ _ c.if-size-entry-2.true)

pub returns : goal.returns
unfolding entries_judged
returns c = simp (lt-ltb _ _ c.if-sizes-entry.false, le-leb _ _ c.if-entry-least.false, lt-ltb _ _ c.if-size-entry.false, lt-ltb _ _ c.if-size-entry-2.false)

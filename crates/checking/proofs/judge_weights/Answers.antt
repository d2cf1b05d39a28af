-- `judge_weights`: the ends decide, then the first operator of the file that is not allowed, then those that follow.
use Rattle.std.proofs.Common.{sym, ◌∙◌}
use Rattle.layout.specs.Parts.{room-zeros}
use Rattle.checking.specs.Answer.{verdict-alike, verdict-breaks, verdict-follows, then-none}
use Rattle.checking.proofs.judge_weights.Goals as goal

pub do_ends_differ-requires : goal.do_ends_differ-requires
do_ends_differ-requires c = let (_, listed, first, last, for) = c.requires in (listed.limits, first, last, for, room-zeros _ _ listed.limits.total for.long)

pub returns-then-not-do_ends_differ : goal.returns-then-not-do_ends_differ
returns-then-not-do_ends_differ c = verdict-alike _ _ _ _ _ _ _ _ _ _ c.do_ends_differ.ensures (c.if-not-do_ends_differ.true)

pub returns-in-Some : goal.returns-in-Some
returns-in-Some c = verdict-breaks _ _ _ _ _ _ _ _ _ _ c.do_ends_differ.ensures (c.if-not-do_ends_differ.false) _ c.in-Some.ensures

pub returns-then-forgets : goal.returns-then-forgets
returns-then-forgets c = verdict-follows _ _ _ _ _ _ _ _ _ _ c.do_ends_differ.ensures (c.if-not-do_ends_differ.false)
    (sym c.in_default.is ∙ c.first_breaking.ensures) _ (rw c.if-forgets.true c.judge_forgetting.ensures)

pub returns : goal.returns
returns c = verdict-follows _ _ _ _ _ _ _ _ _ _ c.do_ends_differ.ensures (c.if-not-do_ends_differ.false)
    (sym c.in_default.is ∙ c.first_breaking.ensures) _ (rw c.if-forgets.false (then-none _ _ _ _))

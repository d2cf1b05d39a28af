-- `judge` finds the first fault: at each turn what is left of the list, from the least that is allowed, is judged as the whole list is.
use mathlib.Core.Path.{sym, ◌∙◌}
use Rattle.writer.specs.Judging.{judged-outside, judged-unordered, judged-more, judged-none}
use Rattle.writer.proofs.judge.Goals as goal

pub returns-then-feature-ge-MOST_FEATURES : goal.returns-then-feature-ge-MOST_FEATURES
returns-then-feature-ge-MOST_FEATURES c =
    let turn = c.loop-weight in
    sym (turn.invariant ∙ judged-outside c.args.weights.now turn.weight-index _ c.loop-weight-test.true c.if-feature-ge-MOST_FEATURES.true)

pub returns-then-feature-least : goal.returns-then-feature-least
returns-then-feature-least c =
    let turn = c.loop-weight in
    sym (turn.invariant ∙ judged-unordered c.args.weights.now turn.weight-index _ c.loop-weight-test.true c.if-feature-ge-MOST_FEATURES.false c.if-feature-least.true)

pub loop-weight-preserved : goal.loop-weight-preserved
loop-weight-preserved c =
    let turn = c.loop-weight in
    turn.invariant ∙ judged-more c.args.weights.now turn.weight-index _ c.loop-weight-test.true c.if-feature-ge-MOST_FEATURES.false c.if-feature-least.false

pub returns : goal.returns
returns c = sym (c.loop-weight.invariant ∙ judged-none c.args.weights.now c.loop-weight.weight-index _ c.loop-weight-test.false)

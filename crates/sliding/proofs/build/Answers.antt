-- `build` refuses by the first list that has not one gap, then by lots that are not equal, and otherwise delivers.
use mathlib.Core.Path.{◌≡◌, sym, ◌∙◌}
use Rattle.meaning.specs.Bay.{occurrences}
use Rattle.sliding.specs.Whole.{built-start, built-goal, built-unequal, built-whole}
use Rattle.sliding.proofs.build.Goals as goal
use Rattle.sliding.proofs.build.Goals.{After-are_equal, After-occurrences-2}

-- The start was found to have one gap, and then the goal.
one : (c : After-occurrences-2) → occurrences 0 c.args.start.now ≡ 1
one c = sym c.occurrences.ensures ∙ c.if-occurrences-ne1.false

one-goal : (c : After-are_equal) → occurrences 0 c.args.goal.now ≡ 1
one-goal c = sym c.occurrences-2.ensures ∙ c.if-occurrences-ne1-2.false

pub returns-then-occurrences-ne1 : goal.returns-then-occurrences-ne1
returns-then-occurrences-ne1 c =
    let a = c.args in
    let room = a.room.now in
    sym (built-start a.near.now a.start.now a.goal.now room (λ e. c.if-occurrences-ne1.true (c.occurrences.ensures ∙ e)))

pub returns-then-occurrences-ne1-2 : goal.returns-then-occurrences-ne1-2
returns-then-occurrences-ne1-2 c =
    let a = c.args in
    let room = a.room.now in
    sym (built-goal a.near.now a.start.now a.goal.now room (one (goal.at.returns-then-occurrences-ne1-2 c).After-occurrences-2) (λ e. c.if-occurrences-ne1-2.true (c.occurrences-2.ensures ∙ e)))

pub returns-then-not-are_equal : goal.returns-then-not-are_equal
returns-then-not-are_equal c =
    let a = c.args in
    let room = a.room.now in
    sym (built-unequal a.near.now a.start.now a.goal.now room (one (goal.at.returns-then-not-are_equal c).After-occurrences-2) (one-goal (goal.at.returns-then-not-are_equal c).After-are_equal) (sym c.are_equal.ensures ∙ c.if-not-are_equal.true))

pub returns : goal.returns
returns c =
    let a = c.args in
    c.deliver.ensures
    ∙ sym (built-whole a.near.now a.start.now a.goal.now a.room.now (one (goal.at.returns c).After-occurrences-2) (one-goal (goal.at.returns c).After-are_equal) (sym c.are_equal.ensures ∙ c.if-not-are_equal.false))

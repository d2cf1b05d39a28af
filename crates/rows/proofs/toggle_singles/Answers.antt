-- `toggle_singles` meets its contract: after k turns the atoms of the first k entries are toggled.
use mathlib.Core.Path.{◌≡◌, sym, ◌∙◌}
use native.Mathlib.Omega.{arith}
use lib.ListN.{length}
use Rattle.theory.specs.Given.{entry-fine}
use Rattle.theory.specs.Walk.{walk}
use Rattle.numbering.specs.Sizes.{limits-small}
use Rattle.words.specs.Toggled.{toggled-start, toggled-turn, toggled-two}
use Rattle.rows.specs.Moves.{EntryIn, room-toggled, room-one, single-room}
use Rattle.rows.proofs.toggle_singles.Goals as goal
use Rattle.rows.proofs.toggle_singles.Goals.{After-at-entry}

-- The entry at hand is within the limits.
fine : (c : After-at-entry) → EntryIn c.args.sizes.now c.at-entry.result
fine c = rw c.at-entry.ensures (entry-fine c.requires.0 _ (omega arith))

pub loop-k-init : goal.loop-k-init
loop-k-init c = toggled-start _ _

pub single-requires : goal.single-requires
single-requires c = let (a, b, d) = fine (goal.at.single-requires c).After-at-entry in (limits-small _ c.requires.0.limits, a, d)

pub toggle-requires : goal.toggle-requires
toggle-requires c = let (a, b, d) = fine (goal.at.toggle-requires c).After-at-entry in
    rw c.single.ensures (single-room _ _ _ _ (room-toggled _ _ _ _ c.requires.1 c.loop-k.invariant) d)

pub single-requires-in-loop-k : goal.single-requires-in-loop-k
single-requires-in-loop-k c = let (a, b, d) = fine (goal.at.single-requires-in-loop-k c).After-at-entry in (limits-small _ c.requires.0.limits, a, b)

pub toggle-requires-in-loop-k : goal.toggle-requires-in-loop-k
toggle-requires-in-loop-k c = let (a, b, d) = fine (goal.at.toggle-requires-in-loop-k c).After-at-entry in
    rw c.single-in-loop-k.ensures (single-room _ _ _ _ (room-one _ _ _ _ (room-toggled _ _ _ _ c.requires.1 c.loop-k.invariant) c.toggle.ensures) b)

pub loop-k-preserved : goal.loop-k-preserved
loop-k-preserved c = toggled-turn _ _ _ _ _ c.loop-k.invariant
    (c.toggle-in-loop-k.ensures ∙ rw (c.toggle.ensures, c.single.ensures, c.single-in-loop-k.ensures, c.at-entry.ensures) (sym (toggled-two _ _ _)))

pub returns : goal.returns
unfolding walk
returns c = let e : c.loop-k.k ≡ length c.args.entries.now = omega arith in c.loop-k.invariant ∙ rw e

-- `toggle_earlier` meets its contract: after k turns what the entry changes with the first k entries is toggled.
use mathlib.Core.Path.{◌≡◌, ◌∙◌}
use native.Mathlib.Omega.{arith}
use native.Mathlib.Nat.{ne_of_lt}
use Rattle.theory.specs.Given.{entry-fine, entries-rise}
use Rattle.words.specs.Toggled.{toggled-start, toggled-turn}
use Rattle.rows.specs.Moves.{room-toggled}
use Rattle.rows.specs.Change.{earlier_features}
use Rattle.rows.proofs.toggle_earlier.Goals as goal

pub loop-k-init : goal.loop-k-init
loop-k-init c = toggled-start _ _

pub toggle_moves-requires : goal.toggle_moves-requires
toggle_moves-requires c = let (g, r, a) = c.requires in let m = c.loop-k-test.true in
    rw (c.at.ensures, c.at-entry.ensures) (room-toggled _ _ _ _ r c.loop-k.invariant, entry-fine g _ (omega arith), entry-fine g _ a, ne_of_lt (entries-rise g _ _ m a))

pub loop-k-preserved : goal.loop-k-preserved
loop-k-preserved c = toggled-turn _ _ _ _ _ c.loop-k.invariant (c.toggle_moves.ensures ∙ rw (c.at.ensures, c.at-entry.ensures))

pub returns : goal.returns
unfolding earlier_features
returns c = let e : c.loop-k.k ≡ c.args.l = omega arith in c.loop-k.invariant ∙ rw e

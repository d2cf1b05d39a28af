-- `toggle_beside` meets its contract: after k turns what the first k entries change is toggled.
use Prim.Native.Nat.{◌<◌}
use mathlib.Core.Path.{◌≡◌, ◌∙◌}
use native.Mathlib.Omega.{arith}
use lib.ListN.{length}
use Rattle.theory.specs.Given.{entry-fine}
use Rattle.words.specs.Toggled.{toggled-start, toggled-turn}
use Rattle.rows.specs.Moves.{room-toggled}
use Rattle.rows.specs.Given.{entry_other}
use Rattle.rows.specs.Change.{beside_features}
use Rattle.rows.proofs.toggle_beside.Goals as goal

pub loop-k-init : goal.loop-k-init
loop-k-init c = toggled-start _ _

pub toggle_moves-requires : goal.toggle_moves-requires
toggle_moves-requires c = let (g, r, a, b, n) = c.requires in let m : c.loop-k.k < length c.args.entries.now = omega arith in
    rw (c.stays.ensures, c.at.ensures) (room-toggled _ _ _ _ r c.loop-k.invariant, (a, b, b), entry-fine g _ m, entry_other g _ _ n m)

pub loop-k-preserved : goal.loop-k-preserved
loop-k-preserved c = toggled-turn _ _ _ _ _ c.loop-k.invariant (c.toggle_moves.ensures ∙ rw (c.stays.ensures, c.at.ensures))

pub returns : goal.returns
unfolding beside_features
returns c = let e : c.loop-k.k ≡ length c.args.entries.now = omega arith in c.loop-k.invariant ∙ rw e

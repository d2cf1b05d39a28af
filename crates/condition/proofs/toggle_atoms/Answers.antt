-- `toggle_atoms`: after i turns the atoms of the first i variables are toggled.
use mathlib.Core.Path.{◌≡◌, sym, ◌∙◌}
use native.Mathlib.Omega.{arith}
use lib.ListN.{length}
use Rattle.words.specs.Toggled.{toggled-start, toggled-turn, toggled-one}
use Rattle.rows.specs.Moves.{room-toggled, single-room}
use Rattle.condition.specs.Ends.{true_atoms}
use Rattle.condition.proofs.toggle_atoms.Goals as goal

pub loop-i-init : goal.loop-i-init
loop-i-init c = toggled-start _ _

pub toggle-requires : goal.toggle-requires
toggle-requires c = let (r, s) = c.requires in
    rw c.single.ensures (single-room _ _ _ _ (room-toggled _ _ _ _ r c.loop-i.invariant) (s.values _
    c.loop-i-test.true))

pub loop-i-preserved : goal.loop-i-preserved
loop-i-preserved c = toggled-turn _ _ _ _ _ c.loop-i.invariant (c.toggle.ensures ∙ rw
    c.single.ensures (sym (toggled-one _ _)))

pub returns : goal.returns
unfolding true_atoms
returns c = let e : c.loop-i.i ≡ length c.args.sizes.now = omega arith in c.loop-i.invariant ∙ rw e

-- `toggle_pairs_of`: after i turns the pairs of variable j's atom with those of the first i variables are toggled.
use mathlib.Core.Path.{◌≡◌, sym, ◌∙◌}
use native.Mathlib.Omega.{arith}
use native.Mathlib.Nat.{ne_of_lt}
use Rattle.words.specs.Toggled.{toggled-start, toggled-turn, toggled-one}
use Rattle.rows.specs.Moves.{room-toggled, both-room}
use Rattle.condition.specs.Ends.{true_pairs_of}
use Rattle.condition.proofs.toggle_pairs_of.Goals as goal

pub loop-i-init : goal.loop-i-init
loop-i-init c = toggled-start _ _

pub toggle-requires : goal.toggle-requires
toggle-requires c = let (r, s, l) = c.requires in
    rw c.both.ensures (both-room _ _ _ _ _ _ (room-toggled _ _ _ _ r c.loop-i.invariant) (ne_of_lt
    c.loop-i-test.true) (s.values _ (omega arith)) (s.values _ l))

pub loop-i-preserved : goal.loop-i-preserved
loop-i-preserved c = toggled-turn _ _ _ _ _ c.loop-i.invariant (c.toggle.ensures ∙ rw
    c.both.ensures (sym (toggled-one _ _)))

pub returns : goal.returns
unfolding true_pairs_of
returns c = let e : c.loop-i.i ≡ c.args.j = omega arith in c.loop-i.invariant ∙ rw e

-- `mark_slots` marks the pairs of two slots at each turn: after k turns those with the first k slots as the second.
use mathlib.Core.Path.{◌≡◌, ap, ◌∙◌}
use native.Mathlib.Omega.{arith}
use lib.ListN.{length}
use Rattle.meaning.specs.Sets.{flat}
use Rattle.words.specs.Toggled.{toggled_all, toggled-start, toggled-turn}
use Rattle.sliding.specs.Parts.{label_pairs, slot_pairs}
use Rattle.sliding.proofs.mark_slots.Goals as goal

pub loop-j-init : goal.loop-j-init
loop-j-init c = toggled-start _ _

pub loop-j-preserved : goal.loop-j-preserved
loop-j-preserved c = toggled-turn _ _ _ _ _ c.loop-j.invariant c.mark_labels.ensures

pub returns : goal.returns
unfolding slot_pairs
returns c =
    let a = c.args in
    let n = length a.sizes.now in
    let all : c.loop-j.j ≡ n = omega (arith, c.loop-j.auto.j-end, c.loop-j-test.false) in
    c.loop-j.invariant ∙ ap (λ k. toggled_all a.pairs.now (flat k (label_pairs n a.start.now a.i))) all

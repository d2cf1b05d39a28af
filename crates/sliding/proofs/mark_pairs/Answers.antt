-- `mark_pairs` marks the pairs of a first slot at each turn: after k turns those with the first k slots as the first.
use mathlib.Core.Path.{◌≡◌, sym, ap, ◌∙◌}
use native.Mathlib.Omega.{arith}
use lib.ListN.{length}
use Rattle.meaning.specs.Sets.{flat}
use Rattle.words.specs.Toggled.{toggled_all, toggled-start, toggled-turn}
use Rattle.sliding.specs.Parts.{slot_pairs}
use Rattle.sliding.specs.Pairs.{bay-pairs}
use Rattle.sliding.proofs.mark_pairs.Goals as goal

pub loop-i-init : goal.loop-i-init
loop-i-init c = toggled-start _ _

pub loop-i-preserved : goal.loop-i-preserved
loop-i-preserved c = toggled-turn _ _ _ _ _ c.loop-i.invariant c.mark_slots.ensures

pub returns : goal.returns
returns c =
    let a = c.args in
    let n = length a.sizes.now in
    let all : c.loop-i.i ≡ n = omega (arith, c.loop-i.auto.i-end, c.loop-i-test.false) in
    c.loop-i.invariant ∙ ap (λ k. toggled_all a.pairs.now (flat k (slot_pairs n a.start.now))) all ∙ ap (toggled_all a.pairs.now) (sym (bay-pairs n a.start.now))

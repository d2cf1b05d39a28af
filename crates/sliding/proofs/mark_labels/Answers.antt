-- `mark_labels` marks the pair of a label at each turn: after k turns those of the first k labels.
use mathlib.Core.Path.{◌≡◌, sym, ap, ◌∙◌}
use native.Mathlib.Omega.{arith}
use lib.ListN.{length}
use Rattle.meaning.specs.Sets.{flat}
use Rattle.words.specs.Toggled.{toggled_all, toggled-start, toggled-turn}
use Rattle.sliding.specs.Parts.{label_pair}
use Rattle.sliding.specs.Pairs.{label-pairs, labels-passed}
use Rattle.sliding.proofs.mark_labels.Goals as goal

pub returns-then-j-i : goal.returns-then-j-i
returns-then-j-i c =
    let a = c.args in
    labels-passed _ a.start.now a.i a.j a.pairs.now c.if-j-i.true

pub loop-label-init : goal.loop-label-init
loop-label-init c = toggled-start _ _

pub loop-label-preserved : goal.loop-label-preserved
loop-label-preserved c = toggled-turn _ _ _ _ _ c.loop-label.invariant c.mark_label.ensures

pub returns : goal.returns
returns c =
    let a = c.args in
    let n = length a.sizes.now in
    let all : c.loop-label.label ≡ n = omega (arith, c.loop-label.auto.label-end, c.loop-label-test.false) in
    c.loop-label.invariant ∙ ap (λ k. toggled_all a.pairs.now (flat k (label_pair n a.start.now a.i a.j))) all
    ∙ ap (toggled_all a.pairs.now) (sym (label-pairs n a.start.now a.i a.j (omega (arith, c.if-j-i.false))))

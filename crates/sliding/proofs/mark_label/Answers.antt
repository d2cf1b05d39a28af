-- `mark_label` toggles one feature, or none where the label does not occur once.
use mathlib.Core.Path.{sym, ◌∙◌}
use native.Mathlib.Omega.{arith}
use Rattle.sliding.specs.Pairs.{label-place, label-marked, label-passed}
use Rattle.sliding.proofs.mark_label.Goals as goal

pub returns-then-occurrences-ne1 : goal.returns-then-occurrences-ne1
returns-then-occurrences-ne1 c = let a = c.args in label-passed _ a.start.now a.i a.j a.label a.pairs.now (λ e. c.if-occurrences-ne1.true (c.occurrences.ensures ∙ e))

pub toggle-requires : goal.toggle-requires
toggle-requires c =
    let a = c.args in
    omega (arith, c.both.ensures, label-place a.sizes.now c.requires.0 a.i a.j a.label c.requires.1 c.requires.2 c.requires.3 a.pairs.now c.requires.4)

pub returns : goal.returns
returns c =
    let a = c.args in
    label-marked a.sizes.now c.requires.0 a.i a.j a.label c.requires.1 c.requires.2 c.requires.3 a.start.now a.pairs.now _ _
    (sym c.occurrences.ensures ∙ c.if-occurrences-ne1.false) c.both.ensures c.toggle.ensures

-- `slots::witness`: the features up to m whose slots have m are collected, beside m itself (`Collected`).
use Rattle.std.proofs.Common.{ℕ, ◌≡◌, ap, ◌∙◌, arith, length}
use Rattle.std.proofs.lemmas.List.{length-replicate}
use Rattle.meaning.specs.Sets.{◌⊕◌}
use Rattle.meaning.specs.Workspace.{has}
use Rattle.words.specs.Change.{toggled}
use Rattle.slots.specs.Find.{has_one}
use Rattle.slots.proofs.witness.Goals as goal

pub returns : goal.returns
returns c f =
    let w = length c.args.set.now in
    let m = c.args.m in
    let e : length c.toggle.new.words ≡ w = omega arith in
    let is = c.toggle.ensures ∙ ap (λ l. toggled l m) c.clear.ensures in
    c.mark_slots.ensures f ∙ rw e (ap (◌⊕◌ _) (ap (λ l. has l f) is ∙ has_one w m f (rw (length-replicate {A = ℕ} w 0) c.requires.1)))

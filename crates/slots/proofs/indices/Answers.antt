-- `slots::indices`: the features whose own slots have them are collected (`Collected`).
use Rattle.std.proofs.Common.{◌≡◌, ap, ◌∙◌, arith, length}
use Rattle.meaning.specs.Sets.{◌⊕◌}
use Rattle.meaning.specs.Workspace.{has}
use Rattle.theory.specs.Truth.{xor-false}
use Rattle.words.specs.Part.{has-none}
use Rattle.slots.proofs.indices.Goals as goal

pub returns : goal.returns
returns c f =
    let w = length c.args.full.now in
    let e : length c.clear.new.words ≡ w = omega arith in
    c.mark_slots.ensures f ∙ rw e (ap (◌⊕◌ _) (ap (λ l. has l f) c.clear.ensures ∙ has-none w f) ∙ xor-false _)

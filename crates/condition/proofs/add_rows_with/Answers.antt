-- `add_rows_with`: nothing is pending at first (`opened-kept`), nor in the end.
use mathlib.Core.Path.{◌≡◌, ap, subst, ◌∙◌}
use native.Mathlib.Omega.{arith}
use lib.ListN.{length}
use Rattle.meaning.specs.Workspace.{words_for}
use Rattle.slots.specs.Area.{slots_in}
use Rattle.slots.specs.Waiting.{Indexes, indexes-collected}
use Rattle.condition.specs.Slotted.{held_slots, with_rows}
use Rattle.condition.specs.Later.{opened-kept, opened-as}
use Rattle.condition.proofs.add_rows_with.Goals as goal
use Rattle.condition.proofs.add_rows_with.Goals.{After-indices}

full-long : (c : After-indices) → length c.indices.new.full ≡ words_for c.args.n
full-long c = omega (arith, c.indices.auto, c.requires.1)

collected : (c : After-indices) → let a = c.args in Indexes (held_slots a.v a.n a.workspace.now) c.indices.new.full
collected c = let a = c.args in
    subst (λ area. Indexes (slots_in a.n area) c.indices.new.full) c.slots.ensures (indexes-collected a.n _ c.indices.new.full _ c.requires.1 c.indices.ensures)

pub add_rows_later-requires : goal.add_rows_later-requires
add_rows_later-requires c = (opened-kept c.requires.0 _ _ (full-long (goal.at.add_rows_later-requires c).After-indices) (collected (goal.at.add_rows_later-requires c).After-indices) c.requires.2, record { counted = c.requires.0.counted; ready = c.requires.0.ready })

pub returns : goal.returns
returns c = let a = c.args in
    c.settle_rows.ensures.words ∙ c.add_rows_later.ensures.rows ∙ ap (λ ws. with_rows a.v a.n ws a.entries.now) (opened-as c.requires.0 _ _ (full-long (goal.at.returns c).After-indices) (collected (goal.at.returns c).After-indices) c.requires.2)

-- `insert_condition`: the sizes are copied, and the slot area is lent for writing (`lent-slots`). An idle operator has no rows; those of another are given by its table
-- and its base state (`rows-by`).
use mathlib.Core.Path.{◌≡◌, ap₂, sym, subst, ◌∙◌}
use Rattle.meaning.specs.Pair.{idle}
use Rattle.meaning.specs.Workspace.{has}
use Rattle.theory.specs.Rows.{rows_of}
use Rattle.theory.specs.InsertAll.{insert_all}
use Rattle.layout.specs.Parts.{sizes_part, lent-slots}
use Rattle.pairs.specs.Ready.{Ready}
use Rattle.slots.specs.Waiting.{settled_in}
use Rattle.condition.specs.Walk.{prepared, rows-by, idle-rows}
use Rattle.condition.specs.Slotted.{area-written}
use Rattle.condition.specs.Later.{later-none, later-kept, later_rows}
use Rattle.condition.proofs.insert_condition.Goals as goal
use Rattle.condition.proofs.insert_condition.Goals.{After-copy, After-pairs}

-- The sizes that were copied, and the operator, ready with them and the pairs that are lent.
held : (c : After-copy) → let a = c.args in c.copy.new.into ≡ sizes_part a.v a.workspace.now
held c = c.copy.ensures ∙ c.sizes.ensures

ready : (c : After-pairs) → let a = c.args in
    Ready c.copy.new.into c.pairs.result.now a.entries.now
ready c = let a = c.args in
    subst (λ sizes. Ready sizes c.pairs.result.now a.entries.now) (sym (held (goal.at.After-pairs c).After-copy))
    (subst (λ pairs. Ready (sizes_part a.v a.workspace.now) pairs a.entries.now) (sym c.pairs.ensures) c.requires.1.ready)

pub returns-then-prepare : goal.returns-then-prepare
returns-then-prepare c = let a = c.args in record {
  kept = c.requires.0;
  rows = later-none c.requires.0 a.entries.now (idle-rows _ _ _
      (ap₂ (λ sizes pairs. idle sizes (has pairs) a.entries.now) (sym (held (goal.at.returns-then-prepare c).After-copy)) (sym c.pairs.ensures)
      ∙ sym c.prepare.ensures.0 ∙ c.if-prepare.true));
}

pub returns : goal.returns
returns c = let a = c.args in let n = a.n in let area = c.insert_rows.new.area in
    let written = area-written a.v n _ c.places_for-places.ensures a.workspace.now area in record {
      kept = later-kept c.requires.0 _ _ area _ c.insert_rows.ensures.waiting written;
      rows = later_rows c.requires.0 _ _ area _ c.insert_rows.ensures.waiting written _ (c.insert_rows.ensures.rows
          ∙ ap₂ (λ area rows. insert_all n (settled_in n a.pending.now area) rows) (lent-slots a.v n _ c.places_for-places.ensures a.workspace.now)
          (sym (rows-by (prepared (ready (goal.at.returns c).After-pairs) c.prepare.ensures c.if-prepare.false))
          ∙ ap₂ (λ sizes pairs. rows_of sizes (has pairs) a.entries.now) (held (goal.at.returns c).After-copy) c.pairs.ensures));
    }

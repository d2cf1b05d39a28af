-- `add_task`: the rows of both kinds of operators one after the other; nothing is pending at first (`blank-as`), nor in the end.
use mathlib.Core.Path.{◌≡◌, ap, sym, subst, ◌∙◌}
use mathlib.Core.Bool.{false}
use mathlib.Core.List.{foldl}
use Rattle.meaning.specs.Workspace.{has}
use Rattle.forgetting.specs.Kept.{kept_in}
use Rattle.condition.specs.Slotted.{with_rows}
use Rattle.condition.specs.Later.{settled_as}
use Rattle.opening.specs.Adding.{Workable, Sized, added_from, added-sized}
use Rattle.opening.specs.Later.{blank-kept, blank-as}
use Rattle.opening.proofs.add_task.Goals as goal
use Rattle.opening.proofs.add_task.Goals.{After-add_operators, then-forgets, else-forgets}

added : (c : After-add_operators) → let a = c.args in let h = a.header in
    settled_as h.variables h.features c.add_operators.new.pending c.add_operators.new.room ≡ added_from h.variables h.features h.operators a.bytes.now h.next a.room.now
added c = let a = c.args in let h = a.header in
    c.add_operators.ensures.rows ∙ ap (λ ws. added_from h.variables h.features h.operators a.bytes.now h.next ws) (blank-as c.requires.0)

pub add_operators-requires : goal.add_operators-requires
add_operators-requires c = let h = c.args.header in let b = c.requires.0 in (blank-kept b, subst (Workable h.variables h.features) (sym (blank-as b)) b.workable)

pub add_forgettings-requires : goal.add_forgettings-requires
add_forgettings-requires c = let a = c.args in let h = a.header in (
  c.add_operators.ensures.kept,
  subst (Sized h.variables h.features a.sizes.now) (sym (added (goal.at.add_forgettings-requires c).After-add_operators))
      (added-sized h.variables h.features a.bytes.now h.operators h.next a.sizes.now a.room.now c.requires.1),
  c.requires.2,
  c.requires.3,
)

pub returns : goal.returns
returns c = let a = c.args in let added = added (goal.at.returns c).After-add_operators in c.settle_rows.ensures.words ∙ elim c.if-forgets.branch [
  | then-forgets w ↦ rw (w.room-is, w.pending-is, w.if-forgets.true) (w.add_forgettings.ensures.rows
      ∙ ap (λ ws. foldl (with_rows a.header.variables a.header.features) ws (kept_in a.sizes.now (has a.pairs.now) a.goal.now false)) added)
  | else-forgets w ↦ rw (w.room-is, w.pending-is, w.if-forgets.false) added
]

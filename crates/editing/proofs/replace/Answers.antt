-- `editing::replace`: a refusal by the first test that fails; else the values stand in the place of the end's.
use Rattle.std.specs.Prelude.{◌≡◌, ◌+◌, ◌≤◌, Some, length}
use Rattle.std.proofs.Common.{sym, ◌∙◌, subst, arith}
use Rattle.std.proofs.lemmas.Result.{err_from_is_err_and}
use Rattle.meaning.specs.Answer.{fine, edit_judged}
use Rattle.layout.specs.Parts.{due-sizes, due-headed}
use Rattle.formed.specs.Parts.{content_parts}
use Rattle.formed.specs.Formed.{FormedIs, yes-due}
use Rattle.editing.specs.Answers.{replaced, end_at}
use Rattle.editing.specs.Change.{edit-malformed, edit-refused, place_is, parts-listed, end-judged, end-room, end-long, end-done}
use Rattle.editing.proofs.replace.Goals as goal
use Rattle.editing.proofs.replace.Goals.{After-place_of-at, In_ok-shape, In_ok-judge_end}

-- The workspace is well formed.
yes : (c : In_ok-shape) → FormedIs c.args.workspace.now (Some c.in_ok-shape.shape)
yes c = let e : c.well_formed-2.result ≡ Some c.in_ok-shape.shape = grind arith in subst (FormedIs c.args.workspace.now) e c.well_formed-2.ensures

-- The edit is found fine.
found : (c : In_ok-judge_end) → let s = c.in_ok-shape.shape in edit_judged (content_parts s.variables s.features c.args.workspace.now) (replaced c.args.end c.args.values.now) ≡ fine
found c = let a = c.args in
    sym (c.in_ok-judge_end.ensures ∙ end-judged a.workspace.now _ _ (yes (goal.at.In_ok-judge_end c).In_ok-shape) _ _ c.sizes.ensures c.pairs.ensures a.end a.values.now)

-- The part for the end's values has its place, and is in the workspace.
place : (c : After-place_of-at) → c.place_of-at.result ≡ end_at c.args.end c.in_ok-shape.shape.variables
place c = let s = c.in_ok-shape.shape in c.place_of-at.ensures ∙ place_is c.args.end s.variables s.features _ c.places_for.ensures

room : (c : After-place_of-at) → c.place_of-at.result + c.in_ok-shape.shape.variables ≤ length c.args.workspace.now
room c = let a = c.args in end-room a.workspace.now _ _ (yes (goal.at.After-place_of-at c).In_ok-shape) a.end _ (place c) a.values.now

pub returns-in_err-shape : goal.returns-in_err-shape
returns-in_err-shape c = let p = err_from_is_err_and c.from_residual.result c.from_residual.ensures.1 in
    rw (p.1, p.2) (edit-malformed _ (replaced c.args.end c.args.values.now) _ _ c.well_formed-2.ensures c.in_err-shape.ensures.value)

pub sizes-requires : goal.sizes-requires
sizes-requires c = due-sizes (yes-due _ _ _ (yes c))

pub pairs-requires : goal.pairs-requires
pairs-requires c = due-headed (yes-due _ _ _ (yes (goal.at.pairs-requires c).In_ok-shape))

pub judge_end-requires : goal.judge_end-requires
judge_end-requires c = rw (c.sizes.ensures, c.pairs.ensures) (parts-listed _ _ _ (yes (goal.at.judge_end-requires c).In_ok-shape))

pub returns-in_err-judge_end : goal.returns-in_err-judge_end
returns-in_err-judge_end c = let a = c.args in
    let formed = yes (goal.at.returns-in_err-judge_end c).In_ok-shape in
    let p = err_from_is_err_and c.from_residual-in_err-judge_end.result c.from_residual-in_err-judge_end.ensures.1 in
    rw (p.1, p.2) (edit-refused a.workspace.now _ _ formed (replaced a.end a.values.now) _
    (sym (c.in_err-judge_end.ensures ∙ end-judged a.workspace.now _ _ formed _ _ c.sizes.ensures c.pairs.ensures a.end a.values.now)))

pub places_for-requires : goal.places_for-requires
places_for-requires c = let due = yes-due _ _ _ (yes (goal.at.places_for-requires c).In_ok-shape) in (due.variables, due.features)

pub overflow_add-at : goal.overflow_add-at
overflow_add-at c = omega (arith, room c)

pub offset_bounds-workspace-at : goal.offset_bounds-workspace-at
offset_bounds-workspace-at c = omega (arith, room c)

pub slice_bounds-copy-end : goal.slice_bounds-copy-end
slice_bounds-copy-end c = omega (arith, room (goal.at.slice_bounds-copy-end c).After-place_of-at)

pub copy-requires : goal.copy-requires
copy-requires c = let a = c.args in
    end-long a.workspace.now _ _ (yes (goal.at.copy-requires c).In_ok-shape) a.end _ (place (goal.at.copy-requires c).After-place_of-at) a.values.now (found (goal.at.copy-requires c).In_ok-judge_end)

pub returns : goal.returns
returns c = let a = c.args in
    end-done a.workspace.now _ _ (yes (goal.at.returns c).In_ok-shape) a.end _ (place (goal.at.returns c).After-place_of-at) a.values.now _ (found (goal.at.returns c).In_ok-judge_end) c.copy.ensures

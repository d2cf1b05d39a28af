-- `editing::add_operator`: a refusal by the first test that fails; else the operator's rows were inserted into the slots.
use Rattle.std.specs.Prelude.{◌≡◌, Some}
use Rattle.std.proofs.Common.{sym, ◌∙◌, subst, arith}
use Rattle.std.proofs.lemmas.Result.{err_from_is_err_and}
use Rattle.meaning.specs.Task.{IsOperator}
use Rattle.meaning.specs.Answer.{operator_in, add_operator, fine, edit_judged}
use Rattle.theory.specs.Operands.{add-operator}
use Rattle.operator.specs.Records.{record_of}
use Rattle.operator.specs.Known.{count-fine}
use Rattle.layout.specs.Parts.{due-sizes, due-headed}
use Rattle.condition.specs.Holds.{held-opened}
use Rattle.formed.specs.Parts.{content_parts}
use Rattle.formed.specs.Formed.{FormedIs, yes-due}
use Rattle.editing.specs.Change.{edit-malformed, edit-refused, operator-judged, parts-listed, held-parts, operator-done}
use Rattle.editing.proofs.add_operator.Goals as goal
use Rattle.editing.proofs.add_operator.Goals.{In_ok-judge_operator, In_ok-shape}

-- The workspace is well formed.
yes : (c : In_ok-shape) → FormedIs c.args.workspace.now (Some c.in_ok-shape.shape)
yes c = let e : c.well_formed-2.result ≡ Some c.in_ok-shape.shape = grind arith in subst (FormedIs c.args.workspace.now) e c.well_formed-2.ensures

-- The edit is found fine.
found : (c : In_ok-judge_operator) → let s = c.in_ok-shape.shape in edit_judged (content_parts s.variables s.features c.args.workspace.now) (add_operator (record_of c.args.operator)) ≡ fine
found c = let a = c.args in
    sym (c.in_ok-judge_operator.ensures ∙ operator-judged a.workspace.now _ _ (yes (goal.at.In_ok-judge_operator c).In_ok-shape) _ _ c.sizes.ensures c.pairs.ensures (record_of a.operator))

is : (c : In_ok-judge_operator) → let s = c.in_ok-shape.shape in IsOperator (content_parts s.variables s.features c.args.workspace.now).sizes (operator_in (record_of c.args.operator))
is c = let s = c.in_ok-shape.shape in add-operator (content_parts s.variables s.features c.args.workspace.now) (record_of c.args.operator) (found c)

pub returns-in_err-shape : goal.returns-in_err-shape
returns-in_err-shape c = let p = err_from_is_err_and c.from_residual.result c.from_residual.ensures.1 in
    rw (p.1, p.2) (edit-malformed _ (add_operator (record_of c.args.operator)) _ _ c.well_formed-2.ensures c.in_err-shape.ensures.value)

pub sizes-requires : goal.sizes-requires
sizes-requires c = due-sizes (yes-due _ _ _ (yes c))

pub pairs-requires : goal.pairs-requires
pairs-requires c = due-headed (yes-due _ _ _ (yes (goal.at.pairs-requires c).In_ok-shape))

pub judge_operator-requires : goal.judge_operator-requires
judge_operator-requires c = rw (c.sizes.ensures, c.pairs.ensures) (parts-listed _ _ _ (yes (goal.at.judge_operator-requires c).In_ok-shape))

pub returns-in_err-judge_operator : goal.returns-in_err-judge_operator
returns-in_err-judge_operator c = let a = c.args in
    let formed = yes (goal.at.returns-in_err-judge_operator c).In_ok-shape in
    let p = err_from_is_err_and c.from_residual-in_err-judge_operator.result c.from_residual-in_err-judge_operator.ensures.1 in
    rw (p.1, p.2) (edit-refused a.workspace.now _ _ formed (add_operator (record_of a.operator)) _
    (sym (c.in_err-judge_operator.ensures ∙ operator-judged a.workspace.now _ _ formed _ _ c.sizes.ensures c.pairs.ensures (record_of a.operator))))

pub entries-requires : goal.entries-requires
entries-requires c = let a = c.args in
    omega (arith, (parts-listed _ _ _ (yes (goal.at.entries-requires c).In_ok-shape)).limits.variables, count-fine _ a.operator (is (goal.at.entries-requires c).In_ok-judge_operator))

pub add_rows-requires : goal.add_rows-requires
add_rows-requires c =
    let formed = yes (goal.at.add_rows-requires c).In_ok-shape in
    let listed = parts-listed _ _ _ formed in
    rw c.entries.ensures (held-opened _ _ _ _ _ (held-parts _ _ _ formed) _
    (record { limits = listed.limits; due = listed.due; entries = (is (goal.at.add_rows-requires c).In_ok-judge_operator).entries }))

pub returns : goal.returns
returns c = let a = c.args in
    operator-done a.workspace.now _ _ (yes (goal.at.returns c).In_ok-shape) (record_of a.operator) _ (found (goal.at.returns c).In_ok-judge_operator) (rw c.entries.ensures at c.add_rows.ensures)

-- `finding::find`: one law for each answer; `formed` is what the workspace is where it is well formed.
use Rattle.std.specs.Prelude.{◌≡◌, ◌≤◌, true, false, Some, length}
use Rattle.std.proofs.Common.{arith, subst}
use Rattle.std.proofs.lemmas.Result.{err_from_is_err_and}
use Rattle.meaning.specs.Workspace.{words_for}
use Rattle.number.specs.declared.Reason.TheVariants.{Malformed}
use Rattle.formed.specs.Formed.{FormedIs, no-formed, yes-sized, yes-due, yes-proper}
use Rattle.finding.specs.Found.{malformed, small, finds}
use Rattle.finding.proofs.find.Goals as goal
use Rattle.finding.proofs.find.Goals.{Else-room-words_for, In_ok-shape}

formed : (c : In_ok-shape) → FormedIs c.args.workspace.now (Some c.in_ok-shape.shape)
formed c = let e : c.well_formed-2.result ≡ Some c.in_ok-shape.shape = grind arith in subst (FormedIs c.args.workspace.now) e c.well_formed-2.ensures

enough : (c : Else-room-words_for) → words_for c.in_ok-shape.shape.features ≤ length c.args.room.now
enough c = rw c.words_for.ensures at c.if-room-words_for.false

pub returns-in_err-shape : goal.returns-in_err-shape
returns-in_err-shape c =
    let p = err_from_is_err_and c.from_residual.result c.from_residual.ensures.1 in
    let r = rw c.in_err-shape.ensures.ok_part at c.in_err-shape.ensures.value in
    let reason : c.in_err-shape.field-0.0 ≡ Malformed = cc in
    rw (p.1, p.2, reason) (malformed _ _ (no-formed _ (subst (FormedIs c.args.workspace.now) c.in_err-shape.ensures.ok_part c.well_formed-2.ensures)))

pub words_for-requires : goal.words_for-requires
words_for-requires c = (yes-due _ _ _ (formed c)).features

pub returns-then-room-words_for : goal.returns-then-room-words_for
returns-then-room-words_for c = small _ _ _ _ (formed (goal.at.returns-then-room-words_for c).In_ok-shape) (rw c.words_for.ensures at c.if-room-words_for.true)

pub find_in-requires : goal.find_in-requires
find_in-requires c = let yes = formed (goal.at.find_in-requires c).In_ok-shape in (yes-sized _ _ _ yes, yes-due _ _ _ yes, yes-proper _ _ _ yes, enough (goal.at.find_in-requires c).Else-room-words_for)

pub returns-then-find_in : goal.returns-then-find_in
returns-then-find_in c = finds _ _ _ _ (formed (goal.at.returns-then-find_in c).In_ok-shape) true _ (enough (goal.at.returns-then-find_in c).Else-room-words_for) (rw c.if-find_in.true at c.find_in.ensures)

pub returns : goal.returns
returns c = finds _ _ _ _ (formed (goal.at.returns c).In_ok-shape) false _ (enough (goal.at.returns c).Else-room-words_for) (rw c.if-find_in.false at c.find_in.ensures)

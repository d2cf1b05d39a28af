-- `convert`: what is known of a task that was accepted as of the other kind goes to `convert_in`; a refusal is answered as it is.
use Rattle.std.proofs.Common.{sym, ap, ◌∙◌, replicate}
use Rattle.std.proofs.lemmas.Result.{err_from_is_err_and}
use Rattle.meaning.specs.Limits.{most_variables, most_features}
use Rattle.meaning.specs.File.{kind_if, judged_as}
use Rattle.meaning.specs.Workspace.{slots_at}
use Rattle.task.specs.Answer.{judged-told, judged-refused}
use Rattle.converting.specs.Answer.{due-kind, convert-refused}
use Rattle.converting.proofs.convert.Goals as goal

pub convert_in-requires : goal.convert_in-requires
convert_in-requires c = (replicate (slots_at most_variables most_features) 0, rw (← due-kind c.args.gapped) (judged-told _ _ _ _ c.in_ok-header.ensures))

pub returns-in_err-header : goal.returns-in_err-header
returns-in_err-header c =
    let a = c.args in
    let p = err_from_is_err_and c.from_residual.result c.from_residual.ensures.1 in
    let refused = judged-refused _ _ _ _ c.in_err-header.ensures in
    rw (p.1, p.2) (convert-refused (kind_if a.gapped) a.task.now a.room.now _ (ap (λ kind. judged_as kind a.task.now) (sym (due-kind a.gapped)) ∙ refused))

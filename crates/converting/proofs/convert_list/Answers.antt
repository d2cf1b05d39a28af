-- `convert_list`: the words of the weights that were read have these as members.
use Rattle.std.proofs.Common.{ℕ, ◌≡◌, List, refl, sym, ap, ◌∙◌}
use Rattle.std.proofs.lemmas.Result.{err_from_is_err_and}
use Rattle.meaning.specs.Number.{got}
use Rattle.meaning.specs.File.{kind_if, other, judged_weights_as}
use Rattle.reader.specs.Answer.{feature_words, reads-next, reads-fault}
use Rattle.converting.specs.Answer.{due-kind, words-few, list-delivered, list-refused}
use Rattle.converting.proofs.convert_list.Goals as goal
use Rattle.converting.proofs.convert_list.Goals.{In_ok-read_weights}

read : (c : In_ok-read_weights) → let a = c.args in
    (ws : List ℕ) × (judged_weights_as (other (kind_if a.gapped)) a.n a.weights.now ≡ got ws c.in_ok-read_weights.field-0) × (c.read_weights.new.words ≡ feature_words a.n ws)
read c =
    let a = c.args in
    let (ws, e, held) = reads-next _ _ _ _ _ c.in_ok-read_weights.ensures refl in
    (ws, ap (λ kind. judged_weights_as kind a.n a.weights.now) (sym (due-kind a.gapped)) ∙ e, held)

pub returns-in_err-read_weights : goal.returns-in_err-read_weights
returns-in_err-read_weights c =
    let a = c.args in
    let p = err_from_is_err_and c.from_residual.result c.from_residual.ensures.1 in
    let refused = reads-fault _ _ _ _ _ c.in_err-read_weights.ensures refl in
    rw (p.1, p.2) (list-refused (kind_if a.gapped) a.n a.weights.now a.room.now _ (ap (λ kind. judged_weights_as kind a.n a.weights.now) (sym (due-kind a.gapped)) ∙ refused))

pub deliver_set-requires : goal.deliver_set-requires
deliver_set-requires c = words-few c.args.n (read (goal.at.deliver_set-requires c).In_ok-read_weights).0 _ c.requires.0 (read (goal.at.deliver_set-requires c).In_ok-read_weights).2

pub returns : goal.returns
returns c =
    let a = c.args in
    let (ws, e, held) = read (goal.at.returns c).In_ok-read_weights in
    list-delivered (kind_if a.gapped) a.n a.weights.now a.room.now ws _ _ _ e held c.deliver_set.ensures

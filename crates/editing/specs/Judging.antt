-- An operator that is handed over: judged in file order, then whether the list is closed under it.
use Rattle.std.specs.Prelude.{ℕ, suc, ◌≡◌, Bool, List, [], length}
use Rattle.std.proofs.Common.{ap₂, ◌∙◌}
use Rattle.meaning.specs.Task as meaning
use Rattle.meaning.specs.Pair.{closed}
use Rattle.meaning.specs.Number.{Range, Unclosed}
use Rattle.meaning.specs.File.{inside}
use Rattle.meaning.specs.Workspace.{has}
use Rattle.meaning.specs.Answer.{operator_in, Judged, fine, need, entries_judged}
use Rattle.operator.specs.Entries.{length-held}
use Rattle.theory.specs.Operands.{unless}
use Rattle.operator.specs.declared.Operator.{Operator}
use Rattle.operator.specs.Records.{record_of}
use Rattle.operator.specs.Known.{edit-judged, found-fine}
use Rattle.formed.specs.Parts.{content_from}
use Rattle.editing.specs.Operand.{operator_judged}

-- What is judged of an operator in file order.
abbrev pub file_judged : List ℕ → Operator → Judged
file_judged sizes o = need (inside 1 (suc (length sizes)) o.count) Range (entries_judged sizes 0 (operator_in (record_of o)) fine)

-- That the list is closed is judged last.
pub operator-after : (sizes pairs : List ℕ) (o : Operator) (first : Judged) (is-closed : Bool) → file_judged sizes o ≡ first
    → closed sizes (has pairs) (operator_in (record_of o)) ≡ is-closed
    → operator_judged sizes (has pairs) (record_of o) ≡ unless first (need is-closed Unclosed fine)
operator-after sizes pairs o first is-closed e h = edit-judged (content_from sizes [] [] pairs []) (record_of o) ∙ ap₂ (λ j b. unless j (need b Unclosed fine)) e h

pub file-known : (sizes : List ℕ) (o : Operator) → file_judged sizes o ≡ fine → meaning.IsOperator sizes (operator_in (record_of o))
file-known sizes o e = found-fine sizes o.count (operator_in (record_of o)) e (length-held o.count o.variables o.befores o.afters)

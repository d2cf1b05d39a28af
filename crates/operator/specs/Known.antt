-- What callers know of an operator that was read or found fine.
use Rattle.std.specs.Prelude.{ℕ, suc, ◌≤◌, ◌≡◌, List, length, leb, ltb}
use Rattle.std.proofs.Common.{ap, arith, leb-true}
use Rattle.meaning.specs.Task.{Operator, IsOperator}
use Rattle.meaning.specs.Number.{Range, Unclosed, got}
use Rattle.meaning.specs.File.{inside, operator_of}
use Rattle.meaning.specs.Answer.{OperatorRecord, operator_in, add_operator, fine, need, entries_judged, edit_judged}
use Rattle.meaning.specs.Pair.{closed}
use Rattle.meaning.specs.Workspace.{Content}
use Rattle.meaning.specs.Limits.{most_variables}
use Rattle.theory.specs.Search.{and_left}
use Rattle.theory.specs.Parts.{operator-said}
use Rattle.theory.specs.ReadBack.{entries-length}
use Rattle.theory.specs.Operands.{unless, need-unless, need-fine, entries-fine}
use Rattle.operator.specs.declared.Operator as declared
use Rattle.operator.specs.Entries.{length-held}
use Rattle.operator.specs.Records.{record_of}
use Rattle.operator.specs.Laws.{entries-unless}

-- ---- an operator of a file

module _ (sizes bytes : List ℕ) (at : ℕ) (o : Operator) (next : ℕ) (read : operator_of sizes bytes at ≡ got o next) where
  pub operator-is : IsOperator sizes o
  operator-is = ((operator-said bytes sizes).gives at o next read).known.0

-- ---- an operator that is handed over

pub found-fine : (sizes : List ℕ) (count : ℕ) (o : Operator) → need (inside 1 (suc (length sizes)) count) Range (entries_judged sizes 0 o fine) ≡ fine → length o ≡ count → IsOperator sizes o
found-fine sizes count o e l =
    let (counted, judged) = need-fine (inside 1 (suc (length sizes)) count) Range (entries_judged sizes 0 o fine) e in
    record { filled = omega (arith, l, leb-true 1 count (and_left (leb 1 count) (ltb count (suc (length sizes))) counted)); entries = (entries-fine sizes 0 o fine judged).0 }

-- What an edit judges further, that the pairs are closed, comes after its operator.
pub edit-judged : (c : Content) (r : OperatorRecord) → edit_judged c (add_operator r)
    ≡ unless (need (inside 1 (suc (length c.sizes)) r.count) Range (entries_judged c.sizes 0 (operator_in r) fine)) (need (closed c.sizes c.pairs (operator_in r)) Unclosed fine)
edit-judged c r =
    let further = need (closed c.sizes c.pairs (operator_in r)) Unclosed fine in
    rw (need-unless (inside 1 (suc (length c.sizes)) r.count) Range (entries_judged c.sizes 0 (operator_in r) fine) further)
    (ap (need (inside 1 (suc (length c.sizes)) r.count) Range) (entries-unless c.sizes 0 (operator_in r) further))

-- ---- a record

-- Arrays that have room for an entry for each variable.
pub record Room (o : declared.Operator) : Type 0 where
  pub variables : length o.variables ≡ most_variables
  pub befores : length o.befores ≡ most_variables
  pub afters : length o.afters ≡ most_variables

pub count-fine : (sizes : List ℕ) (o : declared.Operator) → IsOperator sizes (operator_in (record_of o)) → o.count ≤ length sizes
count-fine sizes o is = let held = length-held o.count o.variables o.befores o.afters in
    omega (arith, entries-length sizes 0 (operator_in (record_of o)) (omega arith) is.entries, held)

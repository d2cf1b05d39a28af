-- What the code's records and answers say in the words of the meaning.
use Rattle.std.specs.Prelude.{ℕ, [], ◌∷◌, replicate, Result, Ok, Err}
use Rattle.meaning.specs.Limits.{most_variables}
use Rattle.meaning.specs.Task as meaning
use Rattle.meaning.specs.Number.{Read, got}
use Rattle.meaning.specs.Answer.{OperatorRecord, operator_in, Judged, fine, faulty}
use Rattle.operator.specs.Entries.{held_in}
use Rattle.number.specs.Answers.{reason_of, faulted}
use Rattle.number.specs.declared.Fault.{Fault}
use Rattle.number.specs.declared.Reason.{Reason}
use Rattle.operator.specs.declared.Operator.{Operator}
use Rattle.operator.specs.declared.OperatorRead.{OperatorRead}
use Rattle.operator.specs.declared.EntryRead.{EntryRead}

-- The first k entries of a record, and all of it.
abbrev pub first_of : ℕ → Operator → meaning.Operator
first_of k o = held_in k o.variables o.befores o.afters

abbrev pub record_of : Operator → OperatorRecord
record_of o = record { count = o.count; variables = o.variables; befores = o.befores; afters = o.afters }

-- A record for so many entries, before they are stored.
abbrev pub blank_for : ℕ → Operator
blank_for count = record { count = count; variables = replicate most_variables 0; befores = replicate most_variables 0; afters = replicate most_variables 0 }

-- An entry that was read, as an operator of one entry.
abbrev pub entry_read_of : Result EntryRead Fault → Read meaning.Operator
entry_read_of (Ok read) = got (read.entry ∷ []) read.next
entry_read_of (Err f) = faulted f

abbrev pub operator_read_of : Result OperatorRead Fault → Read meaning.Operator
operator_read_of (Ok read) = got (operator_in (record_of read.operator)) read.next
operator_read_of (Err f) = faulted f

abbrev pub judgement_of : {A : Type 0} → Result A Reason → Judged
judgement_of (Ok _) = fine
judgement_of (Err reason) = faulty (reason_of reason)

-- What a caller reads in the number of each call of the face is the call's answer, and each call leaves one number and one memory.
use Rattle.std.specs.Prelude.{ℕ, Bool, List}
use Rattle.meaning.specs.File.{Kind, plain, gapped, judged_task}
use Rattle.meaning.specs.Answer.{Checks, ChecksNew, Opens, Finds, Edit, Edits}
use Rattle.meaning.specs.Bay.{Builds}
use Rattle.meaning.specs.Partial.{Partial, judged_partial, left_out, OpensPartial, ChecksPartial, ChecksPartialNew, BuildsBy, Silences}
use Rattle.meaning.specs.Mend.{Mends, Drops, FaultsPairs}
use Rattle.meaning.specs.Place.{shown_as, shown, shown_partial, shown_bay, displayed, Displays, DisplaysNew, DisplaysPartial, DisplaysBay}
use Rattle.meaning.specs.Convert.{Converts, ConvertsWeights}
use Rattle.theory.specs.Determined.{AtMostOne, is-only, checks-only, opens-only, finds-only, edits-only, builds-only, builds-by-only, silences-only, mends-only, drops-only, faults-only, converts-only, converts-weights-only}
use Rattle.line.specs.Answer.{Lines, lines-only}
use Rattle.words.specs.Members.{members_in}
use Rattle.writer.specs.Weights.{weights_written, Writes}
use Rattle.verdicts.specs.Answer.{VerdictLines, verdict-lines-only}
use Rattle.codes.specs.Code.{verdict_code, length_code, finding_code, edit_code, fault_code, holder_code, Coded, Left, Leaves}
use Rattle.codes.specs.Back.{answer_in, read-allowed, outcome_in, outcome-allowed, verdict-table, length-table, finding-table, edit-table, fault-table, holder-table, coded-only, leaves-only}
use Rattle.florumeja.specs.Fits.{checks-fit, checks-partial-fit, opens-fit, opens-partial-fit, finds-fit, edits-fit, builds-fit, builds-partial-fit, silences-fit, mends-fit, drops-fit, faults-fit, converts-fit, converts-weights-fit, lines_fit, Slices, verdict-lines-fit, displays-fit, writes-fit}

-- ---- the answer that is read in a call's number is the call's answer

pub check-read : (task weights : List ℕ) (number : ℕ) → Coded verdict_code (Checks task weights) number → Checks task weights (answer_in verdict-table number)
check-read task weights = read-allowed verdict-table (Checks task weights) (checks-fit plain task weights)

pub open-read : (task room : List ℕ) (left : Left) → Leaves length_code (Opens task room) left → Opens task room (outcome_in length-table left)
open-read task room = outcome-allowed length-table (Opens task room) (opens-fit task room)

pub find-read : (workspace room : List ℕ) (left : Left) → Leaves finding_code (Finds workspace room) left → Finds workspace room (outcome_in finding-table left)
find-read workspace room = outcome-allowed finding-table (Finds workspace room) (finds-fit workspace room)

pub edit-read : (workspace : List ℕ) (edit : Edit) (left : Left) → Leaves edit_code (Edits workspace edit) left → Edits workspace edit (outcome_in edit-table left)
edit-read workspace edit = outcome-allowed edit-table (Edits workspace edit) (edits-fit workspace edit)

pub build-read : (bay room : List ℕ) (left : Left) → Leaves length_code (Builds bay room) left → Builds bay room (outcome_in length-table left)
build-read bay room = outcome-allowed length-table (Builds bay room) (builds-fit bay room)

pub check-partial-read : (file weights : List ℕ) (number : ℕ) → Coded verdict_code (ChecksPartial file weights) number → ChecksPartial file weights (answer_in verdict-table number)
check-partial-read file weights = read-allowed verdict-table (ChecksPartial file weights) (checks-partial-fit plain file weights)

pub open-partial-read : (file room : List ℕ) (left : Left) → Leaves length_code (OpensPartial file room) left → OpensPartial file room (outcome_in length-table left)
open-partial-read file room = outcome-allowed length-table (OpensPartial file room) (opens-partial-fit file room)

-- By the letter, and lean.
pub build-partial-read : (out : Partial → ℕ → ℕ → Bool) (file room : List ℕ) (left : Left) → Leaves length_code (BuildsBy out file room) left
    → BuildsBy out file room (outcome_in length-table left)
build-partial-read out file room = outcome-allowed length-table (BuildsBy out file room) (builds-partial-fit out file room)

pub silence-read : (task marks room : List ℕ) (left : Left) → Leaves length_code (Silences task marks room) left → Silences task marks room (outcome_in length-table left)
silence-read task marks room = outcome-allowed length-table (Silences task marks room) (silences-fit task marks room)

pub mend-read : (task room : List ℕ) (left : Left) → Leaves length_code (Mends task room) left → Mends task room (outcome_in length-table left)
mend-read task room = outcome-allowed length-table (Mends task room) (mends-fit task room)

pub dropped-read : (task room : List ℕ) (left : Left) → Leaves length_code (Drops task room) left → Drops task room (outcome_in length-table left)
dropped-read task room = outcome-allowed length-table (Drops task room) (drops-fit task room)

pub pair-fault-read : (task room : List ℕ) (left : Left) → Leaves fault_code (FaultsPairs task room) left → FaultsPairs task room (outcome_in fault-table left)
pair-fault-read task room = outcome-allowed fault-table (FaultsPairs task room) (faults-fit task room)

pub line_read : (input room : List ℕ) (left : Left) → Leaves length_code (Lines input room) left → Lines input room (outcome_in length-table left)
line_read input room = outcome-allowed length-table (Lines input room) (lines_fit input room)

pub weight-file-read : (words room : List ℕ) (left : Left) → Leaves length_code (Writes (members_in words) room) left
    → Writes (members_in words) room (outcome_in length-table left)
weight-file-read words room = outcome-allowed length-table (Writes (members_in words) room) (writes-fit (members_in words) room)

-- The line gives a place in the files, so these are no longer than any slice.
pub check-line-read : (task weights room : List ℕ) → Slices task weights → (left : Left) → Leaves length_code (VerdictLines task weights room) left
    → VerdictLines task weights room (outcome_in length-table left)
check-line-read task weights room few = outcome-allowed length-table (VerdictLines task weights room) (verdict-lines-fit task weights room few)

pub display-read : (task weights room : List ℕ) (left : Left) → Leaves holder_code (Displays task weights room) left → Displays task weights room (outcome_in holder-table left)
display-read task weights room = outcome-allowed holder-table (Displays task weights room) (displays-fit (shown task weights) room)

pub display-partial-read : (partial weights room : List ℕ) (left : Left) → Leaves holder_code (DisplaysPartial partial weights room) left
    → DisplaysPartial partial weights room (outcome_in holder-table left)
display-partial-read partial weights room = outcome-allowed holder-table (DisplaysPartial partial weights room) (displays-fit (shown_partial partial weights) room)

pub display-bay-read : (bay room : List ℕ) (left : Left) → Leaves holder_code (DisplaysBay bay room) left → DisplaysBay bay room (outcome_in holder-table left)
display-bay-read bay room = outcome-allowed holder-table (DisplaysBay bay room) (displays-fit (shown_bay bay) room)

-- The kind that is written.
pub convert-read : (kind : Kind) (task room : List ℕ) (left : Left) → Leaves length_code (Converts kind task room) left → Converts kind task room (outcome_in length-table left)
convert-read kind task room = outcome-allowed length-table (Converts kind task room) (converts-fit kind task room)

pub convert-weights-read : (kind : Kind) (task weights room : List ℕ) (left : Left) → Leaves length_code (ConvertsWeights kind task weights room) left
    → ConvertsWeights kind task weights room (outcome_in length-table left)
convert-weights-read kind task weights room = outcome-allowed length-table (ConvertsWeights kind task weights room) (converts-weights-fit kind task weights room)

pub check-new-read : (task weights : List ℕ) (number : ℕ) → Coded verdict_code (ChecksNew task weights) number → ChecksNew task weights (answer_in verdict-table number)
check-new-read task weights = read-allowed verdict-table (ChecksNew task weights) (checks-fit gapped task weights)

pub check-partial-new-read : (file weights : List ℕ) (number : ℕ) → Coded verdict_code (ChecksPartialNew file weights) number
    → ChecksPartialNew file weights (answer_in verdict-table number)
check-partial-new-read file weights = read-allowed verdict-table (ChecksPartialNew file weights) (checks-partial-fit gapped file weights)

pub display-new-read : (task weights room : List ℕ) (left : Left) → Leaves holder_code (DisplaysNew task weights room) left → DisplaysNew task weights room (outcome_in holder-table left)
display-new-read task weights room = outcome-allowed holder-table (DisplaysNew task weights room) (displays-fit (shown_as gapped task weights) room)

-- ---- each call leaves one number and one memory

pub check-only : (task weights : List ℕ) → AtMostOne (Coded verdict_code (Checks task weights))
check-only task weights = coded-only verdict_code (Checks task weights) (checks-only plain (judged_task task) weights)

pub open-only : (task room : List ℕ) → AtMostOne (Leaves length_code (Opens task room))
open-only task room = leaves-only length_code (Opens task room) (opens-only (judged_task task) room)

pub find-only : (workspace room : List ℕ) → AtMostOne (Leaves finding_code (Finds workspace room))
find-only workspace room = leaves-only finding_code (Finds workspace room) (finds-only workspace room)

pub edit-only : (workspace : List ℕ) (edit : Edit) → AtMostOne (Leaves edit_code (Edits workspace edit))
edit-only workspace edit = leaves-only edit_code (Edits workspace edit) (edits-only workspace edit)

pub build-only : (bay room : List ℕ) → AtMostOne (Leaves length_code (Builds bay room))
build-only bay room = leaves-only length_code (Builds bay room) (builds-only bay room)

pub check-partial-only : (file weights : List ℕ) → AtMostOne (Coded verdict_code (ChecksPartial file weights))
check-partial-only file weights = coded-only verdict_code (ChecksPartial file weights) (checks-only plain (judged_partial left_out file) weights)

pub open-partial-only : (file room : List ℕ) → AtMostOne (Leaves length_code (OpensPartial file room))
open-partial-only file room = leaves-only length_code (OpensPartial file room) (opens-only (judged_partial left_out file) room)

pub build-partial-only : (out : Partial → ℕ → ℕ → Bool) (file room : List ℕ) → AtMostOne (Leaves length_code (BuildsBy out file room))
build-partial-only out file room = leaves-only length_code (BuildsBy out file room) (builds-by-only out file room)

pub silence-only : (task marks room : List ℕ) → AtMostOne (Leaves length_code (Silences task marks room))
silence-only task marks room = leaves-only length_code (Silences task marks room) (silences-only task marks room)

pub mend-only : (task room : List ℕ) → AtMostOne (Leaves length_code (Mends task room))
mend-only task room = leaves-only length_code (Mends task room) (mends-only task room)

pub dropped-only : (task room : List ℕ) → AtMostOne (Leaves length_code (Drops task room))
dropped-only task room = leaves-only length_code (Drops task room) (drops-only task room)

pub pair-fault-only : (task room : List ℕ) → AtMostOne (Leaves fault_code (FaultsPairs task room))
pair-fault-only task room = leaves-only fault_code (FaultsPairs task room) (faults-only task room)

pub line-only : (input room : List ℕ) → AtMostOne (Leaves length_code (Lines input room))
line-only input room = leaves-only length_code (Lines input room) (lines-only input room)

pub weight-file-only : (words room : List ℕ) → AtMostOne (Leaves length_code (Writes (members_in words) room))
weight-file-only words room = leaves-only length_code (Writes (members_in words) room) (is-only (weights_written (members_in words) room))

pub check-line-only : (task weights room : List ℕ) → AtMostOne (Leaves length_code (VerdictLines task weights room))
check-line-only task weights room = leaves-only length_code (VerdictLines task weights room) (verdict-lines-only task weights room)

pub display-only : (task weights room : List ℕ) → AtMostOne (Leaves holder_code (Displays task weights room))
display-only task weights room = leaves-only holder_code (Displays task weights room) (is-only (displayed (shown task weights) room))

pub display-partial-only : (partial weights room : List ℕ) → AtMostOne (Leaves holder_code (DisplaysPartial partial weights room))
display-partial-only partial weights room = leaves-only holder_code (DisplaysPartial partial weights room) (is-only (displayed (shown_partial partial weights) room))

pub display-bay-only : (bay room : List ℕ) → AtMostOne (Leaves holder_code (DisplaysBay bay room))
display-bay-only bay room = leaves-only holder_code (DisplaysBay bay room) (is-only (displayed (shown_bay bay) room))

pub convert-only : (kind : Kind) (task room : List ℕ) → AtMostOne (Leaves length_code (Converts kind task room))
convert-only kind task room = leaves-only length_code (Converts kind task room) (converts-only kind task room)

pub convert-weights-only : (kind : Kind) (task weights room : List ℕ) → AtMostOne (Leaves length_code (ConvertsWeights kind task weights room))
convert-weights-only kind task weights room = leaves-only length_code (ConvertsWeights kind task weights room) (converts-weights-only kind task weights room)

pub check-new-only : (task weights : List ℕ) → AtMostOne (Coded verdict_code (ChecksNew task weights))
check-new-only task weights = coded-only verdict_code (ChecksNew task weights) (checks-only gapped (judged_task task) weights)

pub check-partial-new-only : (file weights : List ℕ) → AtMostOne (Coded verdict_code (ChecksPartialNew file weights))
check-partial-new-only file weights = coded-only verdict_code (ChecksPartialNew file weights) (checks-only gapped (judged_partial left_out file) weights)

pub display-new-only : (task weights room : List ℕ) → AtMostOne (Leaves holder_code (DisplaysNew task weights room))
display-new-only task weights room = leaves-only holder_code (DisplaysNew task weights room) (is-only (displayed (shown_as gapped task weights) room))

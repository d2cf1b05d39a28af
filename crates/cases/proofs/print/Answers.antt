-- `print`: the line ends within the room.
use Prim.Native.Nat.{ℕ}
use lib.ListN.{replicate}
use Rattle.meaning.specs.Answer.{Checks}
use Rattle.meaning.specs.Line.{checked_spot, verdict_line}
use Rattle.text.specs.Answer.{line-of-ends}
use Rattle.verdicts.specs.Fits.{verdict_bytes}
use Rattle.cases.proofs.print.Goals as goal

pub line_in-requires : goal.line_in-requires
line_in-requires c =
    let files = c.args in
    line-of-ends (Checks files.task.now files.weights.now) (verdict_line (checked_spot files.task.now files.weights.now)) (replicate {A = ℕ} verdict_bytes 0) _ c.line-printed.result c.line-printed.ensures

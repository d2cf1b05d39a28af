-- `print`: the line ends within the room.
use Rattle.std.proofs.Common.{ℕ}
use lib.ListN.{replicate}
use Rattle.meaning.specs.Line.{ChecksFiles, files_spot, verdict_line}
use Rattle.text.specs.Answer.{line-of-ends}
use Rattle.verdicts.specs.Fits.{verdict_bytes}
use Rattle.checker.proofs.print.Goals as goal

pub line_in-requires : goal.line_in-requires
line_in-requires c =
    let files = c.args in
    line-of-ends (ChecksFiles files.task.now files.weights.now) (verdict_line (files_spot files.task.now files.weights.now)) (replicate {A = ℕ} verdict_bytes 0) _ c.program_line-printed.result c.program_line-printed.ensures

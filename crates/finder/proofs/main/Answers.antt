-- `main`: the line ends within the room.
use Prim.Native.Nat.{ℕ}
use lib.ListN.{take, replicate}
use Rattle.meaning.specs.Line.{Prints, printed_spot, line}
use Rattle.text.specs.Answer.{line-of-ends}
use Rattle.line.specs.Fits.{line_bytes}
use Rattle.finder.proofs.main.Goals as goal

pub line_in-requires : goal.line_in-requires
line_in-requires c =
    let input = take c.read_full-n.result c.read_full-n.new.buf in
    line-of-ends (Prints input) (line (printed_spot input)) (replicate {A = ℕ} line_bytes 0) _ c.line-printed.result c.line-printed.ensures

-- `read_mark` reads the mark of the kind.
use Rattle.std.proofs.lemmas.Result.{err_from_is_err_and}
use mathlib.Core.Path.{◌≡◌, sym}
use mathlib.Core.Bool.{true, false}
use Rattle.meaning.specs.File.{mark_of}
use Rattle.number.specs.Answers.{declared-reason}
use Rattle.reader.proofs.read_mark.Goals as goal
use Rattle.reader.proofs.read_mark.Goals.{Else-not-gapped}

-- Past the test the kind is the new one.
new : (c : Else-not-gapped) → c.args.gapped ≡ true
new c = c.if-not-gapped.false

pub returns-then-not-gapped : goal.returns-then-not-gapped
unfolding mark_of
returns-then-not-gapped c = let old : c.args.gapped ≡ false = c.if-not-gapped.true in simp old

pub returns : goal.returns
unfolding mark_of
returns c = simp (new (goal.at.returns c).Else-not-gapped, sym c.in_ok-mark.ensures)

pub returns-in_err-mark : goal.returns-in_err-mark
unfolding mark_of
returns-in_err-mark c = let p = err_from_is_err_and c.from_residual.result c.from_residual.ensures.1 in rw (p.1, p.2) (simp (new (goal.at.returns-in_err-mark c).Else-not-gapped, sym c.in_err-mark.ensures, declared-reason))

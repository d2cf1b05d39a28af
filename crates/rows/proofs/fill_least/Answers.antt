-- `fill_least` meets its contract: the loop writes the least values from the front (`Written`).
use mathlib.Core.Path.{sym, ◌∙◌}
use native.Mathlib.Omega.{arith}
use Rattle.words.specs.Written.{written_next, written-done}
use Rattle.rows.specs.Base.{length-least, least_at, least-lead}
use Rattle.rows.proofs.fill_least.Goals as goal

pub loop-u-preserved : goal.loop-u-preserved
loop-u-preserved c =
    let e = c.requires.2 ∙ sym (length-least _ _) in
    written_next _ _ _ _ _ e c.loop-u.invariant (omega arith) (c.unwrap_or.ensures ∙ rw c.size.ensures (least-lead _ _ _ c.next_possible.ensures ∙ sym (least_at _ _ _ (omega arith))))

pub returns : goal.returns
returns c = written-done _ _ _ _ (c.requires.2 ∙ sym (length-least _ _)) c.loop-u.invariant (omega arith)

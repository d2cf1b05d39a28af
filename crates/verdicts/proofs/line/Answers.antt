-- `line`: the text that is delivered is the verdict's line.
use mathlib.Core.Path.{sym, ap, ◌∙◌}
use native.Mathlib.Omega.{arith}
use lib.Seq.{length-take-le}
use Rattle.meaning.specs.Answer.{delivered}
use Rattle.checking.specs.Answer.{verdict_of}
use Rattle.text.specs.Parts.{put_front, put-within}
use Rattle.verdicts.specs.Fits.{checks-short}
use borrow.Author.Rules.{rules}
use Rattle.verdicts.proofs.line.Goals as goal

pub put_verdict-end-requires : goal.put_verdict-end-requires
put_verdict-end-requires c = let a = c.args in (search rules, checks-short a.task.now a.weights.now (verdict_of c.check-verdict.result) c.check-verdict.ensures)

pub slice_bounds-text-end : goal.slice_bounds-text-end
slice_bounds-text-end c = omega (arith, put-within _ _ _ _ c.put_verdict-end.ensures)

pub slice_bounds-deliver-end : goal.slice_bounds-deliver-end
slice_bounds-deliver-end c = sym (length-take-le _ _ (omega (arith, put-within _ _ _ _ c.put_verdict-end.ensures)))

pub returns : goal.returns
returns c = (_, c.check-verdict.ensures, c.deliver.ensures ∙ ap (λ bytes. delivered bytes c.args.room.now) (put_front _ _ _ _ c.put_verdict-end.ensures))

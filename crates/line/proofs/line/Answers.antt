-- `line`: what is sought is what the program answers, and the text that is delivered is its line.
use mathlib.Core.Path.{sym, ap, ◌∙◌}
use native.Mathlib.Omega.{arith}
use lib.Seq.{length-take-le}
use Rattle.meaning.specs.Answer.{delivered}
use Rattle.text.specs.Parts.{put_front, put-within}
use borrow.Author.Rules.{rules}
use Rattle.line.proofs.line.Goals as goal

pub put_line-end-requires : goal.put_line-end-requires
put_line-end-requires c = (search rules, search rules)

pub slice_bounds-text-end : goal.slice_bounds-text-end
slice_bounds-text-end c = omega (arith, put-within _ _ _ _ c.put_line-end.ensures)

pub slice_bounds-deliver-end : goal.slice_bounds-deliver-end
slice_bounds-deliver-end c = sym (length-take-le _ _ (omega (arith, put-within _ _ _ _ c.put_line-end.ensures)))

pub returns : goal.returns
returns c =
    let room = c.args.room.now in
    let text = c.put_line-end.ensures in
    (_, c.seek-found.ensures, c.deliver.ensures ∙ ap (λ bytes. delivered bytes room) (put_front _ _ _ _ text))

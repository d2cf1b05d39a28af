-- `refuse_long`: the text that is delivered is the line of 8 without a place.
use mathlib.Core.Path.{sym, ap, ◌∙◌}
use mathlib.Core.List.{[]}
use native.Mathlib.Omega.{arith}
use lib.Seq.{length-take-le}
use Rattle.meaning.specs.Number.{Small, refusal}
use Rattle.meaning.specs.Answer.{delivered}
use Rattle.meaning.specs.Place.{nowhere}
use Rattle.meaning.specs.Line.{spot_text, file_text, refused_line, verdict_line}
use Rattle.text.specs.Parts.{put_front, put-within, refused-few, refusal-short}
use Rattle.verdicts.proofs.refuse_long.Goals as goal

pub put_refused-end-requires : goal.put_refused-end-requires
put_refused-end-requires c = rw c.from.ensures (refused-few [] [] (omega arith) (omega arith) (refusal Small) nowhere (refusal-short Small) tt)

pub slice_bounds-text-end : goal.slice_bounds-text-end
slice_bounds-text-end c = omega (arith, put-within _ _ _ _ c.put_refused-end.ensures)

pub slice_bounds-deliver-end : goal.slice_bounds-deliver-end
slice_bounds-deliver-end c = sym (length-take-le _ _ (omega (arith, put-within _ _ _ _ c.put_refused-end.ensures)))

pub returns : goal.returns
unfolding verdict_line file_text spot_text
returns c = c.deliver.ensures ∙ ap (λ bytes. delivered bytes c.args.room.now) (put_front _ _ _ _ c.put_refused-end.ensures ∙ ap (λ n. refused_line n []) c.from.ensures)

-- `fill_difference`: toggling the features true in either state, from words with no member on, makes the difference (`ends-packed`).
use Rattle.condition.specs.Ends.{ends-packed}
use Rattle.condition.proofs.fill_difference.Goals as goal

pub returns : goal.returns
returns c = let (l, s, g, e) = c.requires in
    ends-packed _ _ _ _ _ _ s g e c.toggle_true.ensures c.toggle_true-2.ensures

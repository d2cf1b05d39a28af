-- `base_row` meets its contract: the three steps toggle the features of the change, from words with no member on.
use Rattle.rows.specs.Change.{change-packed}
use Rattle.rows.proofs.base_row.Goals as goal

pub returns : goal.returns
returns c = let (g, t, a, e) = c.requires in
    change-packed _ _ g.entries _ _ _ _ _ t a e c.toggle_singles.ensures c.toggle_doubles.ensures c.toggle_unnamed.ensures

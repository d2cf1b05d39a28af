-- `apart_row` meets its contract: the features of the difference are toggled, from words with no member on.
use Rattle.rows.specs.Change.{apart-packed}
use Rattle.rows.proofs.apart_row.Goals as goal

pub returns : goal.returns
returns c =
    let (g, t, a, e, l, k, q) = c.requires in apart-packed _ _ g.entries _ t a _ _ l k q _ _ e c.toggle_apart.ensures

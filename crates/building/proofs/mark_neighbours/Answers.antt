-- `mark_neighbours` fills the table place by place.
use mathlib.Core.Path.{ap, ◌∙◌}
use native.Mathlib.Omega.{arith}
use Rattle.meaning.specs.Bay.{neighbours}
use Rattle.sliding.specs.Readers.{near_table, filled-all}
use Rattle.building.proofs.mark_neighbours.Goals as goal

pub returns : goal.returns
returns c =
    let a = c.args in
    let inv = c.loop-place.invariant in
    filled-all a.n (neighbours a.columns) _ _ inv.1 (omega (arith, c.loop-place-test.false, inv.0)) ∙ ap (λ m. near_table m a.n (neighbours a.columns)) inv.0

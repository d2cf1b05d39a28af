-- `first`: the first entries stand in the first parts of the slices.
use Rattle.std.proofs.Common.{sym, ap, ◌∙◌, arith, length, take, length-take-le}
use Rattle.operator.specs.Entries.{length-held, take-parts}
use Rattle.operator.proofs.Entries.first.Goals as goal

pub slice_bounds-result-end : goal.slice_bounds-result-end
slice_bounds-result-end c = sym (length-take-le _ _ (omega (arith, c.self.invariant, sym (length-held _ _ _ _) ∙ ap length c.self.view_is)))

pub slice_bounds-result-end-2 : goal.slice_bounds-result-end-2
slice_bounds-result-end-2 c = sym (length-take-le _ _ (omega (arith, c.self.invariant, sym (length-held _ _ _ _) ∙ ap length c.self.view_is)))

pub slice_bounds-result-end-3 : goal.slice_bounds-result-end-3
slice_bounds-result-end-3 c = sym (length-take-le _ _ (omega (arith, c.self.invariant, sym (length-held _ _ _ _) ∙ ap length c.self.view_is)))

pub returns : goal.returns
returns c = take-parts _ _ _ _ (omega (arith, sym (length-held _ _ _ _) ∙ ap length c.self.view_is)) ∙ ap (take c.args.n) c.self.view_is

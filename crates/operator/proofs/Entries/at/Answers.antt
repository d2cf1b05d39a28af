-- `at`: a place of the entries is one of each slice.
use Rattle.std.proofs.Common.{sym, ap, ◌∙◌, arith, length}
use Rattle.theory.specs.Walk.{entry_at}
use Rattle.operator.specs.Entries.{length-held, entry-held}
use Rattle.operator.proofs.Entries.at.Goals as goal

pub offset_bounds-variables-k : goal.offset_bounds-variables-k
offset_bounds-variables-k c = omega (arith, c.self.invariant, sym (length-held _ _ _ _) ∙ ap length c.self.view_is)

pub bounds-variables-k : goal.bounds-variables-k
bounds-variables-k c = omega (arith, c.self.invariant, sym (length-held _ _ _ _) ∙ ap length c.self.view_is)

pub offset_bounds-befores-k : goal.offset_bounds-befores-k
offset_bounds-befores-k c = omega (arith, c.self.invariant, sym (length-held _ _ _ _) ∙ ap length c.self.view_is)

pub bounds-befores-k : goal.bounds-befores-k
bounds-befores-k c = omega (arith, c.self.invariant, sym (length-held _ _ _ _) ∙ ap length c.self.view_is)

pub offset_bounds-afters-k : goal.offset_bounds-afters-k
offset_bounds-afters-k c = omega (arith, c.self.invariant, sym (length-held _ _ _ _) ∙ ap length c.self.view_is)

pub bounds-afters-k : goal.bounds-afters-k
bounds-afters-k c = omega (arith, c.self.invariant, sym (length-held _ _ _ _) ∙ ap length c.self.view_is)

pub returns : goal.returns
returns c = sym (entry-held _ _ _ _ _ (omega (arith, sym (length-held _ _ _ _) ∙ ap length c.self.view_is))) ∙ ap (λ o. entry_at o c.args.k) c.self.view_is

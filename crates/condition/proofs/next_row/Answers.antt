-- `next_row`: what was found is a possible value of an unnamed variable (`found-ready`), and its difference is made.
use mathlib.Core.Path.{ap, ◌∙◌}
use native.Mathlib.Omega.{arith}
use lib.ListN.{replicate}
use Rattle.condition.specs.Walk.{base-state, base-applies, found-ready, walk-next, walk-done}
use Rattle.condition.proofs.next_row.Goals as goal

pub next_apart-requires : goal.next_apart-requires
next_apart-requires c = let p = c.requires in let h = p.0.1 in (h.given.limits, h.table.room, base-state h, p.1)

pub apart_row-requires : goal.apart_row-requires
apart_row-requires c = let p = c.requires in let h = p.0.1 in
    let (l, k, n) = found-ready h c.args.from _ c.in_ok-found.ensures in
    (h.given, base-state h, base-applies h, c.clear.ensures ∙ ap (λ m. replicate m 0) p.2, l, k, n)

pub overflow_add-result : goal.overflow_add-result
overflow_add-result c = let h = c.requires.0.1 in
    let (l, k, n) = found-ready h c.args.from _ c.in_ok-found.ensures in
    omega (arith, k, h.given.limits.each _ l)

pub returns-in_err-found : goal.returns-in_err-found
returns-in_err-found c = rw c.from_residual.ensures (walk-done c.requires.0.1 c.args.from _ c.requires.2 c.in_err-found.ensures)

pub returns : goal.returns
returns c = walk-next c.requires.0.1 c.args.from _ c.in_ok-found.ensures _ c.apart_row.ensures

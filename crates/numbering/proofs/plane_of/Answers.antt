-- `plane_of` meets its contract: the first number is that of the variables in order, and the step goes with the lower one's value.
use Rattle.std.proofs.Common.{ℕ, ◌+◌, ◌<◌, ◌≡◌, ◌∙◌, List, arith}
use mathlib.Core.Path.{ap₂}
use Rattle.meaning.specs.Feature.{atoms, pair_start}
use Rattle.numbering.specs.Planes.{plane-less, plane-more}
use Rattle.numbering.proofs.plane_of.Goals as goal

-- The number of the first feature of two variables in order.
abbrev first_of : List ℕ → ℕ → ℕ → ℕ
first_of sizes low high = atoms sizes + pair_start sizes low high

pub returns-then-i-j : goal.returns-then-i-j
returns-then-i-j c =
    let low : c.min.result ≡ c.args.i = omega (arith, c.min.ensures, c.if-i-j.true) in
    let high : c.max.result ≡ c.args.j = omega (arith, c.max.ensures, c.if-i-j.true) in
    plane-less _ _ _ _ _ c.if-i-j.true (c.first_pair-first.ensures ∙ ap₂ (first_of c.args.sizes.now) low high) c.size.ensures

pub returns-else-i-j : goal.returns-else-i-j
returns-else-i-j c =
    let l : c.args.j < c.args.i = omega arith in
    let low : c.min.result ≡ c.args.j = omega (arith, c.min.ensures) in
    let high : c.max.result ≡ c.args.i = omega (arith, c.max.ensures) in
    plane-more _ _ _ _ _ l (c.first_pair-first.ensures ∙ ap₂ (first_of c.args.sizes.now) low high) c.size-else-i-j.ensures

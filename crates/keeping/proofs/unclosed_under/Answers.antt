-- `unclosed_under`: an idle operator has none, another one the first that the walk meets.
use Rattle.std.proofs.Common.{arith, sym, ◌∙◌}
use Rattle.numbering.specs.Sizes.{atoms-most}
use Rattle.pairs.specs.Judge.{closed-idle}
use Rattle.pairs.specs.Walk.{closed-past, closed-broken}
use Rattle.keeping.specs.Fault.{met}
use Rattle.keeping.proofs.unclosed_under.Goals as goal

pub fill_possible-requires : goal.fill_possible-requires
fill_possible-requires c = let p = c.requires in (p.0, omega (arith, atoms-most _ p.0.limits))

pub returns-then-is_idle : goal.returns-then-is_idle
returns-then-is_idle c = closed-idle _ _ _ (sym c.is_idle.ensures ∙ c.if-is_idle.true)

pub returns-in_err-pair : goal.returns-in_err-pair
returns-in_err-pair c = rw c.from_residual.ensures (closed-past _ _ _ c.requires.0.entries c.in_err-pair.ensures.0)

pub returns : goal.returns
returns c = let (reached, told) = c.in_ok-pair.ensures in
    (closed-broken _ _ _ c.requires.0.entries _ reached.listed (sym c.is_idle.ensures ∙ c.if-is_idle.false) told, met _ _ _ _ reached told)

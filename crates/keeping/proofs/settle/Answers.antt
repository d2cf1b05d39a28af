-- `settle`: pairs become fewer from pass to pass, or there is no further one.
use Rattle.std.proofs.Common.{arith, rules, refl, ◌∙◌}
use Rattle.numbering.specs.Sizes.{atoms-most}
use Rattle.keeping.specs.Pass.{settled-next, settled-all}
use Rattle.keeping.proofs.settle.Goals as goal

pub pass-requires : goal.pass-requires
pass-requires c = let p = c.requires in let (settled, long) = c.loop-fresh.invariant in
    (record { limits = p.limits; due = settled.long ∙ p.due }, omega (arith, atoms-most _ p.limits, long), rw long refl)

pub returns-then-not-pass : goal.returns-then-not-pass
returns-then-not-pass c = settled-all _ _ _ _ _ _ _ _ c.loop-fresh.invariant.0 _ _ _ c.pass.ensures c.if-not-pass.true

pub loop-fresh-preserved : goal.loop-fresh-preserved
loop-fresh-preserved c = (settled-next _ _ _ _ _ _ _ _ c.loop-fresh.invariant.0 _ _ _ c.pass.ensures, search rules)

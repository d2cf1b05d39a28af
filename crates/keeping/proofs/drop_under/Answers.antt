-- `drop_under`: an idle operator takes nothing out, another one what is unclosed.
use Rattle.std.proofs.Common.{arith, sym, ◌∙◌}
use Rattle.numbering.specs.Sizes.{atoms-most}
use Rattle.keeping.specs.Turn.{turn-idle, turn-left}
use Rattle.keeping.proofs.drop_under.Goals as goal

pub fill_possible-requires : goal.fill_possible-requires
fill_possible-requires c = let p = c.requires in (p.0, omega (arith, atoms-most _ p.0.limits))

pub returns-then-is_idle : goal.returns-then-is_idle
returns-then-is_idle c = turn-idle _ _ _ _ (sym c.is_idle.ensures ∙ c.if-is_idle.true)

pub returns : goal.returns
returns c = turn-left _ _ _ _ _ _ _ c.requires.0.entries (sym c.is_idle.ensures ∙ c.if-is_idle.false) c.drop_unclosed.ensures

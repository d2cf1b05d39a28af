-- `fill_possible`: after u turns the words hold the possible atoms of the first u variables; a named variable adds nothing.
use mathlib.Core.Path.{sym, ◌∙◌}
use native.Mathlib.Omega.{arith}
use lib.ListN.{length}
use Rattle.pairs.specs.Fill.{filled-start, filled-lacks, filled-skip, filled_put, filled-done}
use Rattle.pairs.proofs.fill_possible.Goals as goal
use Rattle.pairs.proofs.fill_possible.Goals.{then-not-names, else-not-names}

pub loop-u-init : goal.loop-u-init
loop-u-init c = filled-start _ _ _ (length c.args.possible.now) _ c.clear.ensures

pub fill_variable-requires : goal.fill_variable-requires
fill_variable-requires c = let (ready, room) = c.requires in (
  record { limits = ready.limits; due = ready.due; entries = c.looks-looked.ensures.entries _ ready.entries },
  c.looks-looked.ensures.unnamed _ (sym c.names.ensures ∙ c.if-not-names.true),
  c.loop-u-test.true,
  omega (arith, c.loop-u.invariant.0, c.clear.auto.words),
  filled-lacks _ _ _ _ _ _ c.loop-u.invariant,
)

pub loop-u-preserved : goal.loop-u-preserved
loop-u-preserved c = elim c.if-not-names.branch [
  | then-not-names w ↦ filled_put _ _ _ _ _ _ c.loop-u.invariant _ _ _ (sym c.names.ensures ∙ w.if-not-names.true) c.looks-looked.ensures w.fill_variable.ensures w.possible-is
  | else-not-names w ↦ filled-skip _ _ _ _ _ _ c.loop-u.invariant _ (sym c.names.ensures ∙ w.if-not-names.false) w.possible-is
]

pub returns : goal.returns
returns c = (
  omega (arith, c.loop-u.invariant.0, c.clear.auto.words),
  filled-done _ _ _ _ _ _ c.loop-u.invariant c.loop-u-test.false c.loop-u.auto.u-end
      (omega (arith, c.requires.1, c.clear.auto.words)),
)

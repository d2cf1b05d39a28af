-- `renumber_block`: after each value of the first variable, the lines of those before are in.
use Prim.Native.Nat.{◌<◌}
use mathlib.Core.Path.{ap, ◌∙◌}
use native.Mathlib.Omega.{arith}
use Rattle.words.specs.Toggled.{toggled_all, toggled-start, toggled-turn}
use Rattle.renumbering.specs.Pairs.{renumbers-next, old-asks, line-room, block-lines, block_none}
use Rattle.renumbering.proofs.renumber_block.Goals as goal
use Rattle.renumbering.proofs.renumber_block.Goals.{After-size-end}

ordered : (s : After-size-end) → s.args.i < s.args.j
ordered s = omega (arith, s.if-j-i.false)

pub returns-then-j-i : goal.returns-then-j-i
returns-then-j-i c = block_none _ _ _ _ _ c.if-j-i.true

pub plane_of-from-requires : goal.plane_of-from-requires
plane_of-from-requires c = let p = c.requires in old-asks p.0 _ _ (omega (arith, c.if-j-i.false)) p.2

pub loop-x-init : goal.loop-x-init
loop-x-init c = toggled-start _ _

pub renumber_line-requires : goal.renumber_line-requires
renumber_line-requires c = rw c.size-end.ensures (line-room (renumbers-next _ _ _ _ _ _ c.requires.0 c.loop-x.invariant) _ _ (ordered (goal.at.renumber_line-requires c).After-size-end) c.requires.2 _ _ c.plane_of-from.ensures
    c.plane_of-to.ensures _ (omega (arith, c.size-x-end.ensures, c.loop-x-test.true)))

pub loop-x-preserved : goal.loop-x-preserved
loop-x-preserved c = toggled-turn _ _ _ _ _ c.loop-x.invariant c.renumber_line.ensures

pub returns : goal.returns
returns c = c.loop-x.invariant ∙ ap (toggled_all c.args.new.now) (block-lines c.requires.0 _ _ (ordered (goal.at.returns c).After-size-end) c.requires.2 _ _ c.plane_of-from.ensures
    c.plane_of-to.ensures _ _ (omega (arith, c.size-x-end.ensures, c.loop-x-test.false)) c.size-end.ensures)

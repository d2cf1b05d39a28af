-- `editing::judge_values`: a length that differs is out of range; else the test of all values tells what is judged.
use Rattle.std.proofs.Common.{rules}
use Rattle.meaning.specs.Task.{State}
use Rattle.theory.specs.Tells.{Tells}
use Rattle.editing.specs.Operand.{values-told}
use Rattle.editing.proofs.judge_values.Goals as goal
use Rattle.editing.proofs.judge_values.Goals.{After-all}

told : (c : After-all) → Tells c.all.result (State c.args.sizes.now c.args.values.now)
told c = search rules

pub returns-then-not-all : goal.returns-then-not-all
returns-then-not-all c = rw c.if-not-all.true at (values-told _ _ _ c.if-values-sizes.false (told (goal.at.returns-then-not-all c).After-all))

pub returns : goal.returns
returns c = rw c.if-not-all.false at (values-told _ _ _ c.if-values-sizes.false (told (goal.at.returns c).After-all))

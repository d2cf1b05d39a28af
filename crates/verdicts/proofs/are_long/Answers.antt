-- `are_long`: the first file decides, or the second does.
use mathlib.Core.Path.{refl}
use borrow.Author.Tests.{lt-ltb, le-ltb}
use Rattle.verdicts.proofs.are_long.Goals as goal

pub returns-then-task-gt-MOST_TASK : goal.returns-then-task-gt-MOST_TASK
returns-then-task-gt-MOST_TASK c = rw (lt-ltb _ _ c.if-task-gt-MOST_TASK.true) refl

pub returns-else-task-gt-MOST_TASK : goal.returns-else-task-gt-MOST_TASK
returns-else-task-gt-MOST_TASK c = rw (le-ltb _ _ c.if-task-gt-MOST_TASK.false) refl

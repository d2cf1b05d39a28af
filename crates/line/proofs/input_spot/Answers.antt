-- `input_spot`: an input that is too long has no place, any other that of its first fault.
use mathlib.Core.Path.{refl}
use borrow.Author.Tests.{lt-ltb, le-ltb}
use Rattle.line.proofs.input_spot.Goals as goal

pub returns-then-input-gt-MOST_INPUT : goal.returns-then-input-gt-MOST_INPUT
returns-then-input-gt-MOST_INPUT c = rw (lt-ltb _ _ c.if-input-gt-MOST_INPUT.true) refl

pub returns : goal.returns
returns c = rw (le-ltb _ _ c.if-input-gt-MOST_INPUT.false) c.task_spot.ensures

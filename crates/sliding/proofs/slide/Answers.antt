-- `slide` puts the two entries in the order of the slots.
use mathlib.Core.Path.{sym}
use Rattle.sliding.specs.Operators.{slide-ordered, slide-turned}
use Rattle.sliding.proofs.slide.Goals as goal

pub returns-then-p-q : goal.returns-then-p-q
returns-then-p-q c = sym (slide-ordered c.args.p c.args.q c.args.t c.if-p-q.true)

pub returns : goal.returns
returns c = sym (slide-turned c.args.p c.args.q c.args.t c.if-p-q.false)

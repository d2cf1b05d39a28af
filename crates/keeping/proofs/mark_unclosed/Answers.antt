-- `mark_unclosed`: below the place of the walk all that is unclosed is marked; the pair there is unclosed.
use Rattle.std.proofs.Common.{◌+◌, Some}
use Rattle.pairs.specs.Ready.{ready-listed}
use Rattle.pairs.specs.Walk.{Reached, reached-first}
use Rattle.keeping.specs.Marks.{Marking, marked_start, marked_next, marked_all, reached-fewer}
use Rattle.keeping.proofs.mark_unclosed.Goals as goal
use Rattle.keeping.proofs.mark_unclosed.Goals.{In-Some, After-unclosed_from-unclosed}

-- Where the walk has come to a pair.
at_pair : (c : In-Some) → let t = c.args.tabled in Marking t.sizes.now t.pairs.now t.entries.now c.args.touched.now (Some c.in-Some.pair) c.loop-unclosed.gone c.loop-unclosed.touched
at_pair c = rw c.in-Some.is at c.loop-unclosed.invariant

-- From that pair on to the next one.
further : (c : After-unclosed_from-unclosed) → let t = c.args.tabled in Reached t.sizes.now t.pairs.now t.entries.now (c.in-Some.pair.feature + 1) c.unclosed_from-unclosed.result
further c = c.unclosed_from-unclosed.ensures.0 _ (reached-first _ _ _ _ _ c.next_pair-next.ensures)

pub loop-unclosed-init : goal.loop-unclosed-init
loop-unclosed-init c = let (reached, told) = c.first_unclosed-unclosed.ensures in record { marked = marked_start _ _ _ _ _ reached _ c.requires.0; at = reached.listed; told = told }

pub loop-unclosed-smaller : goal.loop-unclosed-smaller
loop-unclosed-smaller c = rw c.in-Some.is (reached-fewer _ _ _ _ c.in-Some.pair _ c.features-end.ensures (further c))

pub loop-unclosed-preserved : goal.loop-unclosed-preserved
loop-unclosed-preserved c = let now = at_pair (goal.at.loop-unclosed-preserved c).In-Some in let reached = further c in record {
  marked = marked_next _ _ _ _ (ready-listed c.args.tabled.ready) _ _ _ now.marked now.at now.told _ _ _ c.toggle.ensures c.touch.ensures reached;
  at = reached.listed;
  told = c.unclosed_from-unclosed.ensures.1;
}

pub returns : goal.returns
returns c = marked_all _ _ _ _ c.args.tabled.ready.entries _ _ _ c.in_default.is c.loop-unclosed.invariant

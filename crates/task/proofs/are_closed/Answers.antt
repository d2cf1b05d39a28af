-- `are_closed`: the operators that are left decide as all of them do; none of the listed pairs that the walk has passed is unclosed under an operator that is not idle.
use Rattle.std.proofs.Common.{◌≡◌, true, refl, sym, ◌∙◌, arith}
use Rattle.meaning.specs.Task.{IsOperator}
use Rattle.meaning.specs.Number.{got}
use Rattle.meaning.specs.File.{operator_of}
use Rattle.meaning.specs.Pair.{closed}
use Rattle.meaning.specs.Workspace.{has}
use Rattle.numbering.specs.Sizes.{atoms-most}
use Rattle.operator.specs.Known.{operator-is, count-fine}
use Rattle.operator.specs.Fold.{walk_end, walk-unread, walk_more, walk-left}
use Rattle.pairs.specs.Ready.{Ready, ready-is}
use Rattle.pairs.specs.Judge.{closed-idle}
use Rattle.pairs.specs.Walk.{reached-first, reached-next, closed-past, closed-broken}
use Rattle.task.specs.Walk.{closed_also}
use Rattle.task.proofs.are_closed.Goals as goal
use Rattle.task.proofs.are_closed.Goals.{then-not-is_idle+in_default-listed, else-not-is_idle, After-entries-entries, Joined-not-is_idle}

-- What stands at the turn's place, that it is an operator, and that it is ready to be judged.
read : (s : After-entries-entries) → operator_of s.args.sizes.now s.args.bytes.now s.walk.next ≡ got s.entries-entries.result s.in-Ok.read.next
read s = rw s.entries-entries.ensures (sym s.in-Ok.ensures)

is : (s : After-entries-entries) → IsOperator s.args.sizes.now s.entries-entries.result
is s = operator-is _ _ _ _ _ (read s)

ready : (s : After-entries-entries) → Ready s.args.sizes.now s.args.pairs.now s.entries-entries.result
ready s = ready-is s.requires (is s)

pub entries-entries-requires : goal.entries-entries-requires
entries-entries-requires c = omega (arith, count-fine _ _ (operator-is _ _ _ _ _ (sym c.in-Ok.ensures)), c.requires.limits.variables)

pub fill_possible-requires : goal.fill_possible-requires
fill_possible-requires c = (ready (goal.at.fill_possible-requires c).After-entries-entries, omega (arith, atoms-most _ c.requires.limits, c.walk.invariant.1))

pub invariant_of-tabled : goal.invariant_of-tabled
invariant_of-tabled c = record { ready = ready (goal.at.invariant_of-tabled c).After-entries-entries; held = c.fill_possible.ensures.1 }

pub loop-listed-init : goal.loop-listed-init
loop-listed-init c = (c.walk.invariant.0, reached-first _ _ _ _ _ c.first_pair-listed.ensures)

pub is_unclosed-requires : goal.is_unclosed-requires
is_unclosed-requires c = (rw c.in-Some.is at c.loop-listed.invariant.1).listed.holds

pub next_pair-listed-requires : goal.next_pair-listed-requires
next_pair-listed-requires c =
    let pair = (rw c.in-Some.is at c.loop-listed.invariant.1).listed in
    (c.requires, c.features-end.ensures, omega (arith, pair.below, c.features-end.ensures), pair.holds)

pub loop-listed-preserved : goal.loop-listed-preserved
loop-listed-preserved c =
    let reached = rw c.in-Some.is at c.loop-listed.invariant.1 in
    (c.loop-listed.invariant.0, reached-next _ _ _ _ _ _ reached (sym c.is_unclosed.ensures ∙ c.if-is_unclosed.false) c.next_pair-listed.ensures)

-- After a turn: no operator was found under which the list is not closed.
met : (c : Joined-not-is_idle) → (c.if-not-is_idle.closed ≡ true) × (closed c.args.sizes.now (has c.args.pairs.now) c.entries-entries.result ≡ true)
met c = elim c.if-not-is_idle.branch [
  | then-not-is_idle+in_default-listed w ↦ (
    w.closed-is ∙ w.loop-listed.invariant.0,
    closed-past _ _ _ (ready (goal.at.Joined-not-is_idle c).After-entries-entries).entries (rw w.in_default-listed.is at w.loop-listed.invariant.1),
  )
  | else-not-is_idle w ↦ (w.closed-is ∙ c.walk.invariant.0, closed-idle _ _ _ (sym c.is_idle.ensures ∙ w.if-not-is_idle.false))
]

pub walk-preserved : goal.walk-preserved
walk-preserved c = (
  (met (goal.at.walk-preserved c).Joined-not-is_idle).0,
  c.fill_possible.ensures.0 ∙ c.walk.invariant.1,
  c.walk.invariant.2 ∙ walk_more _ _ _ _ _ _ _ _ _ _ c.walk-test.true (read (goal.at.walk-preserved c).After-entries-entries) (met (goal.at.walk-preserved c).Joined-not-is_idle).1,
)

pub returns-after-walk : goal.returns-after-walk
returns-after-walk c = c.walk.invariant.0 ∙ sym (c.walk.invariant.2 ∙ walk_end _ _ _ _ _ _ _ c.walk-test.false)

pub returns-in_default : goal.returns-in_default
returns-in_default c = c.walk.invariant.0 ∙ sym (c.walk.invariant.2 ∙ walk-unread _ _ _ _ _ _ _ _ _ (sym c.in_default.ensures))

pub returns-then-is_unclosed : goal.returns-then-is_unclosed
returns-then-is_unclosed c =
    let s = (goal.at.returns-then-is_unclosed c).After-entries-entries in
    let a = c.args in
    let at = c.walk in
    let busy = sym c.is_idle.ensures ∙ c.if-not-is_idle.true in
    let pair = (rw c.in-Some.is at c.loop-listed.invariant.1).listed in
    let found = closed-broken a.sizes.now a.pairs.now c.entries-entries.result (ready s).entries c.in-Some.pair pair busy (sym c.is_unclosed.ensures ∙ c.if-is_unclosed.true) in
    sym (at.invariant.2 ∙ walk-left (closed_also a.sizes.now (has a.pairs.now)) a.sizes.now a.bytes.now a.count at.judged at.next _ c.entries-entries.result _ _ c.walk-test.true (read s) found (λ p. refl))

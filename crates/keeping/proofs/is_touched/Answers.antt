-- `is_touched`: the entries that are left tell the rest.
use Rattle.std.proofs.Common.{arith, ◌≡◌, ◌<◌, ◌+◌, ◌&&◌, sym, ap, ◌∙◌, length}
use Rattle.meaning.specs.Task.{size}
use Rattle.meaning.specs.Feature.{single}
use Rattle.meaning.specs.Workspace.{has}
use Rattle.theory.specs.Given.{entry-fine}
use Rattle.theory.specs.Mending.{before_in, beside_in, touched_in}
use Rattle.theory.specs.Numbering.{single-below}
use Rattle.theory.specs.Walk.{entry_at}
use Rattle.numbering.specs.Sizes.{limits-small}
use Rattle.keeping.specs.Marks.{left-from, left-start, left-end, left-first, left-second, left-next}
use Rattle.keeping.proofs.is_touched.Goals as goal
use Rattle.keeping.proofs.is_touched.Goals.{After-at-entry, After-has, After-loop-k, then-has+else-met, else-has}

inside : (c : After-at-entry) → c.loop-k.k < length c.args.entries.now
inside c = omega (arith, c.loop-k-test.true, c.len-k-end.ensures)

-- The entry is within the task's limits.
fine : (c : After-at-entry) → let e = c.at-entry.result in (e.variable < length c.args.sizes.now) × (e.before < size c.args.sizes.now e.variable) × (e.after < size c.args.sizes.now e.variable)
fine c = rw c.at-entry.ensures (entry-fine c.requires.0 c.loop-k.k (inside c))

-- Whether its before atom is in the set.
told : (c : After-has) → before_in c.args.sizes.now (has c.args.touched.now) (entry_at c.args.entries.now c.loop-k.k) ≡ c.has.result
told c = let a = c.args in sym (c.has.ensures ∙ ap (has a.touched.now) (c.single.ensures ∙ ap (λ e. single a.sizes.now e.variable e.before) c.at-entry.ensures))

pub loop-k-init : goal.loop-k-init
loop-k-init c = let a = c.args in left-start a.sizes.now (has a.touched.now) a.entries.now

pub single-requires : goal.single-requires
single-requires c = let p = fine c in (limits-small _ c.requires.0.limits, p.0, p.1)

pub has-requires : goal.has-requires
has-requires c = omega (arith, c.single.ensures, single-below c.args.sizes.now _ _ (fine (goal.at.has-requires c).After-at-entry).1, c.requires.1)

pub returns-then-met : goal.returns-then-met
returns-then-met c = let a = c.args in let k = c.loop-k.k in
    sym (left-second a.sizes.now (has a.touched.now) a.entries.now k (inside (goal.at.returns-then-met c).After-at-entry) (told (goal.at.returns-then-met c).After-has ∙ c.if-has.true))
    ∙ ap (left-from a.sizes.now (has a.touched.now) a.entries.now k) (sym c.if-met.true) ∙ c.loop-k.invariant

pub loop-k-preserved : goal.loop-k-preserved
loop-k-preserved c = let a = c.args in let k = c.loop-k.k in let here = inside (goal.at.loop-k-preserved c).After-at-entry in let is = told (goal.at.loop-k-preserved c).After-has in
    let left = left-from a.sizes.now (has a.touched.now) a.entries.now in elim c.if-has.branch [
      | then-has+else-met w ↦ ap (left (k + 1)) w.met-is ∙ sym (left-first a.sizes.now (has a.touched.now) a.entries.now k here (is ∙ w.if-has.true)) ∙ ap (left k) (sym w.if-met.false) ∙ c.loop-k.invariant
      | else-has w ↦ ap (left (k + 1)) w.met-is ∙ sym (left-next a.sizes.now (has a.touched.now) a.entries.now k here c.loop-k.met (is ∙ w.if-has.false)) ∙ c.loop-k.invariant
    ]

-- No entry is left.
ended : (c : After-loop-k) → let a = c.args in (c.loop-k.met && beside_in a.sizes.now (has a.touched.now) a.entries.now) ≡ touched_in a.sizes.now (has a.touched.now) a.entries.now
ended c = let a = c.args in sym (left-end a.sizes.now (has a.touched.now) a.entries.now _ c.loop-k.met (omega (arith, c.loop-k-test.false, c.len-k-end.ensures))) ∙ c.loop-k.invariant

pub returns-then-met-2 : goal.returns-then-met-2
returns-then-met-2 c = let a = c.args in let (befores, afters, are) = c.variables.ensures in
    c.has_unnamed.ensures befores afters ∙ ap (beside_in a.sizes.now (has a.touched.now)) (sym are)
    ∙ ap (λ m. m && beside_in a.sizes.now (has a.touched.now) a.entries.now) (sym c.if-met-2.true) ∙ ended (goal.at.returns-then-met-2 c).After-loop-k

pub returns-else-met-2 : goal.returns-else-met-2
returns-else-met-2 c = let a = c.args in
    c.if-met-2.false ∙ ap (λ m. m && beside_in a.sizes.now (has a.touched.now) a.entries.now) (sym c.if-met-2.false) ∙ ended (goal.at.returns-else-met-2 c).After-loop-k

-- `pass`: after k operators nothing that went is in a good sublist, and the operators that were passed need not be judged again unless a before atom is touched.
use Rattle.std.proofs.Common.{ℕ, refl, sym, ap, ◌∙◌, length}
use Rattle.std.proofs.lemmas.List.{length-replicate}
use Rattle.words.specs.Part.{has-none}
use Rattle.meaning.specs.Workspace.{has}
use Rattle.pairs.specs.Ready.{Listed}
use Rattle.keeping.specs.Turn.{read-few, read-ready}
use Rattle.keeping.specs.Pass.{pass-start, pass-end, pass-unread, pass-next}
use Rattle.keeping.proofs.pass.Goals as goal
use Rattle.keeping.proofs.pass.Goals.{At-loop}

listed : (c : At-loop) → Listed c.args.sizes.now c.loop.pairs
listed c = record { limits = c.requires.0.limits; due = c.loop.invariant.long ∙ c.requires.0.due }

pub loop-init : goal.loop-init
loop-init c = let none = c.requires.2 in
    pass-start _ _ _ _ _ _ _ _ (ap length none ∙ length-replicate {A = ℕ} _ 0) (λ a. ap (λ l. has l a) none ∙ has-none (length c.args.old.now) a)

pub returns-in_default : goal.returns-in_default
returns-in_default c = pass-unread _ _ _ _ _ _ _ _ _ _ _ _ c.loop.invariant _ _ c.loop-test.true (sym c.in_default.ensures)

pub entries-entries-requires : goal.entries-entries-requires
entries-entries-requires c = read-few _ _ _ _ _ _ (listed (goal.at.entries-entries-requires c).At-loop) c.in-Ok.ensures

pub drop_if_due-dropped-requires : goal.drop_if_due-dropped-requires
drop_if_due-dropped-requires c =
    (rw c.entries-entries.ensures (read-ready _ _ _ _ _ _ (listed (goal.at.drop_if_due-dropped-requires c).At-loop) c.in-Ok.ensures), c.requires.1, c.loop.invariant.touched-long)

pub loop-preserved : goal.loop-preserved
loop-preserved c = pass-next _ _ _ _ _ _ _ _ _ _ _ _ c.loop.invariant _ _ _ _ _ _ c.loop-test.true (rw c.entries-entries.ensures (sym c.in-Ok.ensures)) c.drop_if_due-dropped.ensures refl

pub returns : goal.returns
returns c = pass-end _ _ _ _ _ _ _ _ _ _ _ _ c.loop.invariant c.loop-test.false

-- `add_forgettings`: what is inserted are the rows of those before the one that was found.
use Rattle.std.specs.Prelude.{Some}
use mathlib.Core.Path.{refl, ◌∙◌}
use mathlib.Core.Bool.{false}
use native.Mathlib.Omega.{arith}
use Rattle.meaning.specs.Workspace.{has}
use Rattle.forgetting.specs.Out.{out_by}
use Rattle.condition.specs.Later.{settled_as, settled-rowed}
use Rattle.opening.specs.Forgotten.{Forgot, forgotten-opened, forgot_none, forgot-more, forgot-less}
use Rattle.opening.proofs.add_forgettings.Goals as goal
use Rattle.opening.proofs.add_forgettings.Goals.{In-Some}

-- In a turn one was found.
forgot : (s : In-Some) → let a = s.args in let l = s.loop-next in
    Forgot a.v a.n a.sizes.now (out_by a.sizes.now (has a.pairs.now) a.goal.now false) (settled_as a.v a.n a.pending.now a.room.now) (settled_as a.v a.n l.pending l.room) (Some s.in-Some.kept)
forgot s = rw s.in-Some.is at s.loop-next.invariant.1

pub loop-next-init : goal.loop-next-init
loop-next-init c = let (kept, sized, listed, state) = c.requires in (kept, forgot_none _ _ _ _ _ _ sized c.next_kept-next.ensures, refl)

pub add_rows_later-requires : goal.add_rows_later-requires
add_rows_later-requires c = let f = forgot (goal.at.add_rows_later-requires c).In-Some in let kept = c.loop-next.invariant.0 in
    (kept, rw (c.one.ensures, c.entry-entry.ensures) (settled-rowed kept (forgotten-opened _ _ _ _ f.sized _ _ f.there.0 f.there.1)))

pub loop-next-smaller : goal.loop-next-smaller
loop-next-smaller c = rw c.in-Some.is (forgot-less _ _ _ _ _ _ _ (forgot (goal.at.loop-next-smaller c).In-Some) _ c.next_kept-next-in-Some.ensures)

pub loop-next-preserved : goal.loop-next-preserved
loop-next-preserved c = (
  c.settle_when_due.ensures.kept,
  forgot-more _ _ _ _ _ _ _ (forgot (goal.at.loop-next-preserved c).In-Some) _ _
      (c.settle_when_due.ensures.same ∙ rw (← c.entry-entry.ensures, ← c.one.ensures) c.add_rows_later.ensures.rows) c.next_kept-next-in-Some.ensures,
  omega (arith, c.loop-next.invariant.2, c.add_rows_later.auto.workspace, c.settle_when_due.auto),
)

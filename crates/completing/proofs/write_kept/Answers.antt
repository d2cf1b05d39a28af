-- `write_kept`: the walk stands at one that is kept, or at the end, and from it on they are still to be written.
use Rattle.std.specs.Prelude.{Some}
use Rattle.completing.specs.Parts.{Writing, writing-first, writing-fits, writing-next, writing-less, writing-end}
use Rattle.completing.proofs.write_kept.Goals as goal
use Rattle.completing.proofs.write_kept.Goals.{In-Some}

-- In a turn it stands at one that is kept.
writing : (s : In-Some) → let a = s.args in
    Writing a.sizes.now a.pairs.now a.goal.now a.lean a.room.now a.at s.loop-next.room s.loop-next.end (Some s.in-Some.kept)
writing s = rw s.in-Some.is at s.loop-next.invariant

pub loop-next-init : goal.loop-next-init
loop-next-init c = writing-first _ _ _ _ _ _ _ c.requires.2 c.next_kept-next.ensures

pub write_operator-end-requires : goal.write_operator-end-requires
write_operator-end-requires c = writing-fits _ _ _ _ _ _ _ _ _ (writing (goal.at.write_operator-end-requires c).In-Some) c.requires.0.limits _ c.entry.ensures

pub loop-next-smaller : goal.loop-next-smaller
loop-next-smaller c = rw c.in-Some.is (writing-less _ _ _ _ _ _ _ _ _ (writing (goal.at.loop-next-smaller c).In-Some) _ c.next_kept-next-in-Some.ensures)

pub loop-next-preserved : goal.loop-next-preserved
loop-next-preserved c =
    writing-next _ _ _ _ _ _ _ _ _ (writing (goal.at.loop-next-preserved c).In-Some) _ _ _
    (rw (← c.entry.ensures) c.write_operator-end.ensures.after) (rw (← c.entry.ensures) c.write_operator-end.ensures.written) c.next_kept-next-in-Some.ensures

pub returns : goal.returns
returns c = let told = writing-end _ _ _ _ _ _ _ _ (rw c.in_default.is at c.loop-next.invariant) in record { after = told.0; written = told.1 }

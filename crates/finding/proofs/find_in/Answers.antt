-- `finding::find_in`: the parts as they are lent make the content.
use mathlib.Core.Path.{subst}
use native.Mathlib.Omega.{arith}
use lib.ListN.{length-take}
use Rattle.meaning.specs.Limits.{most_features}
use Rattle.meaning.specs.Workspace.{words_for}
use Rattle.meaning.specs.Answer.{done, FindsIn}
use Rattle.theory.specs.Flat.{take-replicate}
use Rattle.layout.specs.Parts.{pairs_part, due-sizes, due-headed}
use Rattle.formed.specs.Parts.{sized-content}
use Rattle.finding.specs.Search.{sized-searched}
use Rattle.finding.specs.Found.{finding_of, searched-finds}
use Rattle.finding.proofs.find_in.Goals as goal

pub words_for-w-requires : goal.words_for-w-requires
words_for-w-requires c = c.requires.1.features

pub sizes-requires : goal.sizes-requires
sizes-requires c = due-sizes c.requires.1

pub start-requires : goal.start-requires
start-requires c = due-headed c.requires.1

pub goal-requires : goal.goal-requires
goal-requires c = due-headed c.requires.1

pub slice_bounds-search-end : goal.slice_bounds-search-end
slice_bounds-search-end c = simp length-take (omega (arith, c.requires.1.features, c.words_for-w.ensures))

pub search-requires : goal.search-requires
search-requires c = let (s, due, proper, room) = c.requires in
    rw (c.words_for-w.ensures, c.sizes.ensures, c.start.ensures, c.goal.ensures, c.slots.ensures)
    (sized-searched _ _ _ s due proper, take-replicate (words_for c.args.n) (words_for most_features) 0 (omega (arith, due.features)), room)

pub returns : goal.returns
returns c = let (s, due, proper, room) = c.requires in let a = c.args in
    let is = rw (c.sizes.ensures, c.start.ensures, c.goal.ensures, c.slots.ensures) at c.search.ensures in
    subst (λ content. FindsIn content a.room.now (record { answer = done (finding_of c.search.result); lent = c.search.new.room }))
    (sized-content a.workspace.now a.v a.n s)
    (searched-finds _ _ _ (pairs_part a.v a.n a.workspace.now) _ _ _ _ _ (sized-searched a.workspace.now a.v a.n s due proper) is.0 is.1)

-- `finding::search`: the row holds the difference (`held-past`), then what is left of it (`left-held`).
use mathlib.Core.Path.{◌≡◌, ap, ◌∙◌, subst}
use lib.Dec.{ltb}
use lib.ListN.{length, replicate}
use Rattle.meaning.specs.Workspace.{words_for}
use Rattle.theory.specs.Slots.{lead}
use Rattle.theory.specs.Words.{length-packed}
use Rattle.slots.specs.Area.{slots_in}
use Rattle.slots.specs.Find.{found}
use Rattle.finding.specs.Search.{searched-few, held-past, held-words, left-held}
use Rattle.finding.proofs.search.Goals as goal

pub fill_difference-requires : goal.fill_difference-requires
fill_difference-requires c = let (s, e, room) = c.requires in (s.limits, s.starts, s.goals, e ∙ ap (λ k. replicate (words_for k) 0) s.total)

pub reduce-requires : goal.reduce-requires
reduce-requires c = let (s, e, room) = c.requires in
    let is = c.fill_difference.ensures in (s.slots, s.words, held-words s _ is, searched-few s, held-past s _ is)

pub find-requires : goal.find-requires
find-requires c = let (s, e, room) = c.requires in
    (s.slots, s.words, ap length c.reduce.ensures ∙ length-packed _ _, searched-few s, room)

pub returns : goal.returns
returns c = let a = c.args in let n = a.n in
    subst (λ left. (c.find.result ≡ ltb (lead n left) n) × (c.find.new.room ≡ found n (slots_in n a.area.now) left a.room.now))
    (left-held c.requires.0 _ c.fill_difference.ensures _ c.reduce.ensures) c.find.ensures

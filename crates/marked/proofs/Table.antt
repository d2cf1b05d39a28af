-- The marked set: document 01's cases A to L have their outcomes.
use Rattle.std.specs.Prelude.{◌≡◌, refl, true}
use mathlib.Core.List.{Memᴰ as In}
use Rattle.meaning.specs.Sets.{all_of}
use Rattle.theory.specs.Search.{all-at}
use Rattle.marked.specs.Decide.{computing}
use Rattle.marked.specs.Table.{Case, marked, Right, right?, tells-right}

-- All twelve pass, by computing.
computed : all_of right? marked ≡ true
unfolding marked right? computing
computed = refl

-- The single theorem: every marked case has its outcome by the definitions.
pub marked-right : (c : Case) → In c marked → Right c
marked-right c m = (tells-right c).yes (all-at right? marked computed c m)

-- `read_pairs` meets its contract: the features are read into a part of the words, which is put back.
use mathlib.Core.Path.{◌≡◌, ap, ◌∙◌}
use Rattle.meaning.specs.Feature.{atoms}
use Rattle.theory.specs.Contents.{sizes_in}
use Rattle.layout.specs.Parts.{sizes-first}
use Rattle.reader.specs.Pairs.{part_small, pairs-room, pairs-none, pairs-put}
use Rattle.reader.proofs.read_pairs.Goals as goal
use Rattle.reader.proofs.read_pairs.Goals.{After-places_for-places}

-- The first feature that may be listed.
low : (c : After-places_for-places) → c.atoms-low.result ≡ atoms (sizes_in c.args.header.now)
low c = c.atoms-low.ensures ∙ ap atoms (c.sizes.ensures ∙ sizes-first _)

pub atoms-low-requires : goal.atoms-low-requires
atoms-low-requires c = part_small _ _ c.requires _ c.sizes.ensures

pub read_features-requires : goal.read_features-requires
read_features-requires c = (pairs-room _ _ c.requires _ (low (goal.at.read_features-requires c).After-places_for-places), pairs-none _ _ c.requires _ c.places_for-places.ensures)

pub returns : goal.returns
returns c = pairs-put _ _ c.requires _ (low (goal.at.returns c).After-places_for-places) _ _ c.places_for-places.ensures _ _ _ _ c.read_features.ensures

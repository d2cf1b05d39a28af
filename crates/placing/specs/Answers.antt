-- A spot and a part of the code in the words of the meaning.
use Rattle.std.specs.Prelude.{Option, None, Some}
use Rattle.meaning.specs.Place as meaning
use Rattle.placing.specs.declared.Spot.{Spot}
use Rattle.placing.specs.declared.Spot.TheVariants.{InTask, InWeights}
use Rattle.placing.specs.declared.Part.{Part}
use Rattle.placing.specs.declared.Part.TheVariants.{OfTask, OfWeights}

abbrev pub spot_of : Option Spot → meaning.Spot
spot_of None = meaning.nowhere
spot_of (Some (InTask place)) = meaning.in_task place
spot_of (Some (InWeights place)) = meaning.in_weights place

abbrev pub part_of : Part → meaning.Part
part_of (OfTask place many) = meaning.of_task place many
part_of (OfWeights place many) = meaning.of_weights place many

-- `put_refused`: the line of a refusal with the place in the bay file, which is no longer than a slice can be.
use mathlib.Core.Path.{sym, subst}
use mathlib.Core.List.{[]}
use native.Mathlib.Omega.{arith}
use Rattle.meaning.specs.Number.{refusal}
use Rattle.meaning.specs.Bay.{judged_bay}
use Rattle.meaning.specs.Place.{spot_alone}
use Rattle.meaning.specs.Line.{place_text, bay_line}
use Rattle.theory.specs.Shown.{spot-bay-within}
use Rattle.number.specs.Answers.{reason_of}
use Rattle.placing.specs.Answers.{spot_of}
use Rattle.text.specs.Parts.{ShortSpot, spot-short, refused-few, refusal-short}
use Rattle.bay.proofs.put_refused.Goals as goal

pub put_refused-requires : goal.put_refused-requires
put_refused-requires c = let bay = c.args.bay.now in
    let near = spot-short bay [] (omega arith) (omega arith) (spot_alone (judged_bay bay)) (spot-bay-within bay []) in
    rw c.from.ensures (omega (arith, refused-few [] [] (omega arith) (omega arith) (refusal (reason_of c.args.reason)) (spot_of c.spot.result) (refusal-short (reason_of c.args.reason)) (subst ShortSpot (sym c.spot.ensures) near)))

pub returns : goal.returns
unfolding bay_line place_text
returns c = rw (← c.from.ensures, ← c.spot.ensures) c.put_refused.ensures

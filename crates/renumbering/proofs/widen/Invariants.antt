-- `widen`: the wider sizes stand at the front.
use Rattle.std.specs.Prelude.{◌≡◌, take}
use Rattle.meaning.specs.Partial.{built_sizes}
use Rattle.renumbering.proofs.widen.Given as goal

abbrev pub invariant-loop-i : goal.invariant-loop-i
invariant-loop-i l = take l.i l.wider ≡ take l.i (built_sizes l.sizes)

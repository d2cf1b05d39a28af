-- `deliver`: the values that are named, and the parts.
use Prim.Native.Nat.{◌≤◌}
use mathlib.Core.Path.{◌≡◌}
use native.Mathlib.Omega.{arith}
use lib.ListN.{length, take}
use lib.Seq.{length-take-le}
use Rattle.silencing.specs.Answer.{silent-front}
use Rattle.silencing.proofs.deliver.Goals as goal
use Rattle.silencing.proofs.deliver.Goals.{After-fill_named-many}

found : (c : After-fill_named-many) → (length (take c.fill_named-many.result c.fill_named-many.new.named) ≡ c.fill_named-many.result) × (c.fill_named-many.result ≤ length c.args.marks.now)
found c =
    let silent = c.requires.0 in
    (length-take-le c.fill_named-many.result c.fill_named-many.new.named (omega (arith, c.fill_named-many.ensures.0, c.fill_named-many.auto.named, silent.marked.long, silent.few)), c.fill_named-many.ensures.0)

pub write_partial-requires : goal.write_partial-requires
write_partial-requires c =
    let (silent, few, countable) = c.requires in
    (silent-front silent _ (omega (arith, found (goal.at.write_partial-requires c).After-fill_named-many)) c.fill_named-many.ensures.1, few, countable)

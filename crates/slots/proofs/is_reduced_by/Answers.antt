-- `slots::is_reduced_by`: the shape of each slot beside the collected indices is the reduced shape.
use Prim.Native.Nat.{ℕ, ◌*◌}
use mathlib.Core.Path.{◌≡◌, ap, sym, ◌∙◌, subst}
use mathlib.Core.Bool.{◌&&◌}
use native.Mathlib.Omega.{arith}
use lib.Dec.{ltb}
use Rattle.meaning.specs.Workspace.{has}
use Rattle.slots.specs.Area.{slot_at}
use Rattle.slots.specs.Shape.{shaped-reduced}
use Rattle.slots.proofs.is_reduced_by.Goals as goal

pub indices-requires : goal.indices-requires
indices-requires c = (c.requires.0 ∙ ap (λ w. c.args.n * w) (sym c.requires.1), omega (arith, c.requires))

pub returns : goal.returns
returns c = shaped-reduced c.args.n c.args.area.now
    c.indices.new.full (subst (λ w. (f : ℕ) → has c.indices.new.full f ≡
    (ltb f c.args.n && has (slot_at w c.args.area.now f) f)) c.requires.1 c.indices.ensures) c.all_shaped.ensures

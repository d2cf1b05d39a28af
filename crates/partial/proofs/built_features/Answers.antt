-- `built_features` meets its contract: the sizes of the built task are made in the beginning of an array.
use Prim.Native.Nat.{ℕ, ◌≤◌}
use mathlib.Core.Path.{◌≡◌, sym, ap, subst, ◌∙◌}
use mathlib.Core.List.{◌++◌}
use native.Mathlib.Omega.{arith}
use lib.ListN.{length, take, drop, replicate, length-append}
use lib.Seq.{take_at}
use Rattle.meaning.specs.Limits.{most_variables}
use Rattle.meaning.specs.Partial.{built_sizes}
use Rattle.numbering.specs.Sizes.{SmallSizes}
use Rattle.theory.specs.PartialPairs.{built-length}
use Rattle.partial.specs.States.{built-small}
use Rattle.partial.proofs.built_features.Goals as goal
use Rattle.partial.proofs.built_features.Goals.{After-widen}

-- The sizes are in the beginning of the array.
wider : (c : After-widen) → let sizes = c.args.sizes.now in let words = c.widen.new.wider ++ drop (length sizes) (replicate {A = ℕ} most_variables 0) in
    (length sizes ≤ length words) × (take (length sizes) words ≡ built_sizes sizes)
wider c =
    let sizes = c.args.sizes.now in
    let rest = drop (length sizes) (replicate {A = ℕ} most_variables 0) in
    let long : length c.widen.new.wider ≡ length c.args.sizes.now = ap length c.widen.ensures ∙ built-length c.args.sizes.now in
    (omega (arith, long, length-append c.widen.new.wider rest), take_at c.widen.new.wider rest (length sizes) long ∙ c.widen.ensures)

pub features-requires : goal.features-requires
features-requires c = subst SmallSizes (sym (wider (goal.at.features-requires c).After-widen).1) (built-small _ c.requires)

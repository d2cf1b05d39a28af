-- `words::toggle`: the shifted one is a power of two below 2 to the power 64, so the stored word is that of `toggled`.
use Prim.Native.Nat.{◌%◌, ◌^◌}
use native.Mathlib.Omega.{arith}
use native.Mathlib.Nat.{one-mul, mod-eq_of_lt}
use lib.Pow.{pow-lt}
use Rattle.words.specs.Change.{toggled}
use Rattle.words.proofs.toggle.Goals as goal

pub returns : goal.returns
unfolding toggled
returns c = simp (one-mul, mod-eq_of_lt {m = 2 ^ 64} (pow-lt {i = c.args.f % 64} {j = 64} (omega arith)))

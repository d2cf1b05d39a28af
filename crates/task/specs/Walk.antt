-- The listed pairs judged on a walk over a file's operators.
use Rattle.std.specs.Prelude.{ℕ, ◌≡◌, Bool, ◌&&◌}
use Rattle.std.proofs.Math.Path.{refl}
use Rattle.std.proofs.Common.{◌∙◌}
use Rattle.std.proofs.Math.Bool.{true, false}
use mathlib.Core.List.{List, [], ◌∷◌, foldl}
use Rattle.meaning.specs.Sets.{Set, all_of}
use Rattle.meaning.specs.Task.{Operator}
use Rattle.meaning.specs.Pair.{closed}
use Rattle.meaning.specs.Number.{got}
use Rattle.meaning.specs.File.{operators_of}
use Rattle.operator.specs.Fold.{walked, walk-all}

-- The list was closed under the operators before, and is under this one too.
abbrev pub closed_also : List ℕ → Set → Bool → Operator → Bool
closed_also sizes pairs before o = before && closed sizes pairs o

-- The list is closed under each of so many operators, as far as they can be read.
abbrev pub closed_from : List ℕ → Set → ℕ → List ℕ → ℕ → Bool
closed_from sizes pairs count bytes at = walked (closed_also sizes pairs) sizes count bytes at true

module _ (sizes : List ℕ) (pairs : Set) where
  fold-closed : (before : Bool) (os : List Operator) → foldl (closed_also sizes pairs) before os ≡ before && all_of (closed sizes pairs) os
  unfolding all_of
  fold-closed true [] = refl
  fold-closed false [] = refl
  fold-closed true (o ∷ os) = fold-closed (closed sizes pairs o) os
  fold-closed false (o ∷ os) = fold-closed false os

  -- Where the operators were read, the list is closed under each of them.
  pub closed_all : (bytes : List ℕ) (count at : ℕ) (os : List Operator) (next : ℕ) → operators_of sizes count bytes at ≡ got os next
      → closed_from sizes pairs count bytes at ≡ all_of (closed sizes pairs) os
  closed_all bytes count at os next e = walk-all (closed_also sizes pairs) sizes bytes count at os next true e ∙ fold-closed true os

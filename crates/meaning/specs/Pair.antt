-- Exclusive pairs: possible values, idle operators, lists that are closed under an operator, and the pairs that keep a list from it.
use Rattle.std.specs.Prelude.{ℕ, Bool, not, ◌&&◌, ◌||◌, List, eqb, length}
use Rattle.meaning.specs.Sets.{Set, some, any_of, two_of}
use Rattle.meaning.specs.Task.{Operator, names, value, size}
use Rattle.meaning.specs.Feature.{both}

-- The sizes of a task and the set of its listed pairs.
module _ (sizes : List ℕ) (pairs : Set) where
  -- "Two atoms are paired if their feature is listed."
  unfoldable pub paired : ℕ → ℕ → ℕ → ℕ → Bool
  paired i x j y = pairs (both sizes i x j y)

  -- "a value of a variable that it doesn't name is possible if paired with none of its before atoms"
  unfoldable pub possible : Operator → ℕ → ℕ → Bool
  possible o u y = not (any_of (λ e. paired e.variable e.before u y) o)

  -- "two of its before atoms are paired"
  unfoldable pub clashing : Operator → Bool
  clashing o = two_of (λ e e'. paired e.variable e.before e'.variable e'.before) o

  -- "some unnamed variable has no possible value"
  unfoldable pub stuck : Operator → Bool
  stuck o = some (length sizes) (λ u. not (names o u) && not (some (size sizes u) (possible o u)))

  -- "The operator is idle if two of its before atoms are paired, or some unnamed variable has no possible value."
  unfoldable pub idle : Operator → Bool
  idle o = clashing o || stuck o

  -- Two after atoms are paired.
  unfoldable pub clashing_after : Operator → Bool
  clashing_after o = two_of (λ e e'. paired e.variable e.after e'.variable e'.after) o

  -- Some after atom is paired with an atom of an unnamed variable that is paired with no before atom.
  unfoldable pub uncovered : Operator → Bool
  uncovered o =
      any_of
      (λ e. some (length sizes) (λ u. not (names o u) && some (size sizes u) (λ y. paired e.variable e.after u y && possible o u y)))
      o

  -- "The list is closed under an operator if it is idle, or both hold: no two after atoms are paired; and whenever an after atom is paired
  -- with an atom b of an unnamed variable, b is paired with a before atom."
  unfoldable pub closed : Operator → Bool
  closed o = idle o || (not (clashing_after o) && not (uncovered o))

  -- Feature f is that of two after atoms.
  unfoldable pub joins_afters : Operator → ℕ → Bool
  joins_afters o f = two_of (λ e e'. eqb f (both sizes e.variable e.after e'.variable e'.after)) o

  -- Feature f is that of an after atom and an atom of an unnamed variable that is paired with no before atom.
  unfoldable pub joins_possible : Operator → ℕ → Bool
  joins_possible o f =
      any_of
      (λ e. some (length sizes) (λ u. not (names o u) && some (size sizes u) (λ y. eqb f (both sizes e.variable e.after u y) && possible o u y)))
      o

  -- A pair is unclosed under an operator if a closed list cannot have it: two after atoms would be paired; or an after atom with an atom b of an
  -- unnamed variable, and b is paired with no before atom.
  unfoldable pub unclosed_pair : Operator → ℕ → Bool
  unclosed_pair o f = joins_afters o f || joins_possible o f

  -- A state holds a listed pair.
  unfoldable pub holds : List ℕ → Bool
  holds state = some (length sizes) (λ j. some j (λ i. paired i (value state i) j (value state j)))

-- A pair is held by a state: it is the feature of two of its atoms.
unfoldable pub held_pair : List ℕ → List ℕ → ℕ → Bool
held_pair sizes state f = some (length sizes) (λ j. some j (λ i. eqb f (both sizes i (value state i) j (value state j))))

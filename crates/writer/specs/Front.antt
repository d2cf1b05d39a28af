-- What stands before the operators of a task file: its bytes, how many there are, and that the operators follow them.
use Rattle.std.specs.Prelude.{ℕ, ◌+◌, ◌*◌, ◌<◌, ◌≤◌, ◌≡◌, List, ◌++◌, length}
use Rattle.std.proofs.Common.{append_assoc}
use native.Mathlib.Omega.{arith}
use Rattle.std.proofs.Math.ListN.{length-append}
use Rattle.meaning.specs.Limits.{word_bits}
use Rattle.meaning.specs.Number.{number_bytes}
use Rattle.meaning.specs.Task.{Task, State}
use Rattle.meaning.specs.Feature.{features}
use Rattle.meaning.specs.Workspace.{words_for, has}
use Rattle.meaning.specs.File.{Kind, InLimits, bytes_of, counted, operator_bytes, list_bytes, mark_bytes, task_bytes_as}
use Rattle.words.specs.Members.{members_in, members-few}
use Rattle.writer.specs.Parts.{Countable, FewWords}
use Rattle.writer.specs.Widths.{four_lists, numbers-few, list-few, mark-few, features-few}

-- Sizes, start and goal that can be written, and the words of a set of pairs.
abbrev pub Front : List ℕ → List ℕ → List ℕ → List ℕ → Type 0
Front sizes start goal pairs = Countable sizes × Countable start × Countable goal × FewWords pairs

-- Sizes within the limits can be written, and so can values below them.
pub sizes-countable : (sizes : List ℕ) → InLimits sizes → Countable sizes
sizes-countable sizes limits = (omega (arith, limits.variables), λ i l. omega (arith, limits.each i l))

pub state-countable : (sizes values : List ℕ) → InLimits sizes → State sizes values → Countable values
state-countable sizes values limits t =
    (omega (arith, t.full, limits.variables), λ i l. let k : i < length sizes = omega (arith, t.full) in omega (arith, t.values i k, limits.each i k))

-- So the parts of a header can be written.
pub parts-front : (sizes start goal pairs : List ℕ) → InLimits sizes → State sizes start → State sizes goal → length pairs ≡ words_for (features sizes) → Front sizes start goal pairs
parts-front sizes start goal pairs limits begins ends due =
    (sizes-countable sizes limits, state-countable sizes start limits begins, state-countable sizes goal limits ends, omega (arith, due, limits.total))

module _ (kind : Kind) (sizes start goal pairs : List ℕ) where
  -- The mark, the sizes with their count, start, goal, and the pairs with their count.
  unfoldable pub front_bytes : List ℕ
  front_bytes = mark_bytes kind ++ (counted number_bytes sizes ++ (bytes_of number_bytes start ++ (bytes_of number_bytes goal ++ list_bytes kind pairs)))

  pub front_length : length front_bytes
      ≡ length (mark_bytes kind) + length (counted number_bytes sizes) + length (bytes_of number_bytes start) + length (bytes_of number_bytes goal) + length (list_bytes kind pairs)
  unfolding front_bytes
  front_length =
      let last = bytes_of number_bytes goal ++ list_bytes kind pairs in
      omega (
        arith,
        length-append (mark_bytes kind) (counted number_bytes sizes ++ (bytes_of number_bytes start ++ last)),
        length-append (counted number_bytes sizes) (bytes_of number_bytes start ++ last),
        length-append (bytes_of number_bytes start) last,
        length-append (bytes_of number_bytes goal) (list_bytes kind pairs),
      )

-- "operator count; each operator" follow it in a task file.
pub task-front : (kind : Kind) (T : Task) → task_bytes_as kind T ≡ front_bytes kind T.sizes T.start T.goal T.pairs ++ counted operator_bytes T.operators
unfolding task_bytes_as front_bytes
task-front kind T = simp append_assoc

-- A front that can be written is short.
pub front-few : (kind : Kind) (sizes start goal words : List ℕ) → Front sizes start goal words → length (front_bytes kind sizes start goal (members_in words)) ≤ four_lists
front-few kind sizes start goal words (s, b, g, p) =
    omega (
      arith,
      front_length kind sizes start goal (members_in words),
      mark-few kind,
      list-few sizes,
      numbers-few start,
      numbers-few goal,
      features-few kind (members_in words),
      members-few (has words) (word_bits * length words),
      s.0,
      b.0,
      g.0,
      p,
    )

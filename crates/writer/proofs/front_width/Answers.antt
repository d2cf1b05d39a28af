-- `front_width` adds the bytes of five parts; the whole is short, and so is each sum before the last.
use Prim.Native.Nat.{◌+◌, ◌≤◌}
use mathlib.Core.Path.{◌≡◌}
use native.Mathlib.Omega.{arith}
use lib.ListN.{length}
use Rattle.meaning.specs.File.{kind_if}
use Rattle.words.specs.Members.{members_in}
use Rattle.writer.specs.Widths.{four_lists, mark-few, list-few, numbers-few}
use Rattle.writer.specs.Front.{front_bytes, front_length, front-few}
use Rattle.writer.proofs.front_width.Goals as goal
use Rattle.writer.proofs.front_width.Goals.{After-list_width, After-set_width}

-- The first two parts; then with the start; then with the goal.
few : (c : After-list_width) → c.mark_width.result + c.list_width.result ≤ four_lists
few c =
    omega (arith, c.requires.0.0, c.mark_width.ensures, mark-few (kind_if c.args.gapped), c.list_width.ensures, list-few c.args.sizes.now)

pub overflow_add-result : goal.overflow_add-result
overflow_add-result c = omega (arith, few c)

pub overflow_add-result-2 : goal.overflow_add-result-2
overflow_add-result-2 c = omega (arith, few (goal.at.overflow_add-result-2 c).After-list_width, c.requires.1.0, c.numbers_width.ensures, numbers-few c.args.start.now)

pub overflow_add-result-3 : goal.overflow_add-result-3
overflow_add-result-3 c =
    omega (arith, few (goal.at.overflow_add-result-3 c).After-list_width, c.requires.1.0, c.requires.2.0, c.numbers_width.ensures, c.numbers_width-2.ensures, numbers-few c.args.start.now, numbers-few c.args.goal.now)

-- All parts are the front.
whole : (c : After-set_width) → let a = c.args in
    c.mark_width.result + c.list_width.result + c.numbers_width.result + c.numbers_width-2.result + c.set_width.result
    ≡ length (front_bytes (kind_if a.gapped) a.sizes.now a.start.now a.goal.now (members_in a.pairs.now))
whole c =
    let a = c.args in
    omega (
      arith,
      c.mark_width.ensures,
      c.list_width.ensures,
      c.numbers_width.ensures,
      c.numbers_width-2.ensures,
      c.set_width.ensures,
      front_length (kind_if a.gapped) a.sizes.now a.start.now a.goal.now (members_in a.pairs.now),
    )

pub overflow_add-result-4 : goal.overflow_add-result-4
overflow_add-result-4 c =
    let a = c.args in
    omega (arith, whole c, front-few (kind_if a.gapped) a.sizes.now a.start.now a.goal.now a.pairs.now c.requires)

pub returns : goal.returns
returns c = whole c

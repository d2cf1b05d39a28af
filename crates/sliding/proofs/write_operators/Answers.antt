-- `write_operators` writes the count and then the operators, until nothing remains.
use mathlib.Core.Path.{refl, sym, ap, ◌∙◌}
use mathlib.Core.List.{[], ◌++◌, append-nil}
use native.Mathlib.Omega.{arith}
use lib.ListN.{length}
use Rattle.meaning.specs.Number.{number_bytes}
use Rattle.meaning.specs.File.{operator_bytes, counted}
use Rattle.writer.specs.Widths.{counted-length}
use Rattle.writer.specs.Remains.{Remains, remains-all, part-fits, remains-after, remains-none}
use Rattle.sliding.specs.Parts.{operators_in, walk_bytes}
use Rattle.sliding.specs.Counts.{operators-few}
use Rattle.sliding.specs.Operators.{operators-split}
use Rattle.sliding.proofs.write_operators.Goals as goal
use Rattle.sliding.proofs.write_operators.Goals.{After-write_number-next}

-- After the count the operators remain.
after-count : (c : After-write_number-next) → let a = c.args in
    Remains a.room.now a.at (counted operator_bytes (operators_in a.near.now a.start.now)) c.write_number-next.new.room c.write_number-next.result
    (walk_bytes a.near.now a.start.now)
after-count c =
    let a = c.args in
    let rest = walk_bytes a.near.now a.start.now in
    let e = c.count_operators.ensures in
    let split = operators-split a.near.now a.start.now ∙ ap (λ k. number_bytes k ++ rest) (sym e) in
    remains-after (remains-all _ _ _ c.requires.1) (number_bytes c.count_operators.result) rest _ _ split c.write_number-next.ensures.after c.write_number-next.ensures.written

pub write_number-next-requires : goal.write_number-next-requires
write_number-next-requires c =
    let a = c.args in
    let e = c.count_operators.ensures in (
      omega (arith, e, operators-few a.near.now a.start.now c.requires.0),
      omega (arith, c.requires.1, ap (λ k. length (number_bytes k)) e, counted-length operator_bytes (operators_in a.near.now a.start.now)),
    )

pub write_walk-requires : goal.write_walk-requires
write_walk-requires c =
    let a = c.args in
    let last = walk_bytes a.near.now a.start.now in
    (c.requires.0, part-fits (after-count (goal.at.write_walk-requires c).After-write_number-next) last [] (sym (append-nil last)))

pub returns : goal.returns
returns c =
    let a = c.args in
    let last = walk_bytes a.near.now a.start.now in
    let told = remains-none (remains-after (after-count (goal.at.returns c).After-write_number-next) last [] _ _ (sym (append-nil last)) c.write_walk.ensures.after c.write_walk.ensures.written) refl in
    record { after = told.0; written = told.1 }

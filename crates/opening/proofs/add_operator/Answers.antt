-- `add_operator`: what was read is an operator of the workspace's sizes, which is ready for its rows.
use Prim.Native.Nat.{◌≤◌}
use mathlib.Core.Path.{◌≡◌, sym, ◌∙◌}
use native.Mathlib.Omega.{arith}
use lib.ListN.{length, length-take}
use Rattle.std.proofs.lemmas.Result.{err_from_is_err_and}
use Rattle.meaning.specs.Limits.{most_variables}
use Rattle.meaning.specs.Number.{got}
use Rattle.meaning.specs.File.{operator_of}
use Rattle.layout.specs.Parts.{sizes_part}
use Rattle.operator.specs.Known.{operator-is, count-fine}
use Rattle.condition.specs.Later.{settled_as, settled-sizes, settled-rowed}
use Rattle.opening.specs.Step.{work-due, step-opened, step-place, step-rows, fault-place, fault-rows}
use Rattle.opening.proofs.add_operator.Goals as goal
use Rattle.opening.proofs.add_operator.Goals.{After-sizes, After-entries-entries}

lent : (c : After-sizes) → let a = c.args in c.sizes.result.now ≡ sizes_part a.v (settled_as a.v a.n a.pending.now a.room.now)
lent c = c.sizes.ensures ∙ sym (settled-sizes c.requires.0)

read : (c : After-entries-entries) → operator_of c.sizes.result.now c.args.bytes.now c.args.at ≡ got c.entries-entries.result c.in_ok-read.read.next
read c = rw c.entries-entries.ensures (sym c.in_ok-read.ensures)

few : (c : After-sizes) → length c.sizes.result.now ≤ most_variables
few c = simp (c.sizes.ensures, length-take) (omega (arith, (work-due _ _ _ c.requires.1).variables))

pub entries-entries-requires : goal.entries-entries-requires
entries-entries-requires c = omega (arith, count-fine _ _ (operator-is _ _ _ _ _ (sym c.in_ok-read.ensures)), few (goal.at.entries-entries-requires c).After-sizes)

pub add_rows_later-requires : goal.add_rows_later-requires
add_rows_later-requires c = let at = goal.at.add_rows_later-requires c in
    (c.requires.0, settled-rowed c.requires.0 (step-opened _ _ _ c.requires.1 _ _ _ (lent at.After-sizes) _ _ (read at.After-entries-entries)))

pub returns-clause-place : goal.returns-clause-place
returns-clause-place c = let at = goal.at.returns-clause-place c in step-place _ _ _ c.requires.1 _ _ _ (lent at.After-sizes) _ _ (read at.After-entries-entries)

pub returns-clause-rows : goal.returns-clause-rows
returns-clause-rows c = let at = goal.at.returns-clause-rows c in
    step-rows _ _ _ c.requires.1 _ _ _ (lent at.After-sizes) _ _ (read at.After-entries-entries) _ c.add_rows_later.ensures.rows

pub returns-in_err-read-clause-place : goal.returns-in_err-read-clause-place
returns-in_err-read-clause-place c =
    let p = err_from_is_err_and c.from_residual.result c.from_residual.ensures.1 in
    rw (p.1, p.2) (fault-place _ _ _ c.requires.1 _ _ _ (lent (goal.at.returns-in_err-read-clause-place c).After-sizes) _ (sym c.in_err-read.ensures))

pub returns-in_err-read-clause-rows : goal.returns-in_err-read-clause-rows
returns-in_err-read-clause-rows c = fault-rows _ _ _ c.requires.1 _ _ _ (lent (goal.at.returns-in_err-read-clause-rows c).After-sizes) _ (sym c.in_err-read.ensures)

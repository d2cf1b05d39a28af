-- `leaves`: a variable with an entry is named and gets its after value; another has what the table has.
use mathlib.Core.Path.{ap, sym, ◌∙◌}
use native.Mathlib.Omega.{arith}
use Rattle.std.specs.Prelude.{None}
use Rattle.meaning.specs.Workspace.{has}
use Rattle.operator.specs.Entries.{named-names}
use Rattle.theory.specs.Flat.{get_d-in}
use Rattle.theory.specs.Numbering.{single-below}
use Rattle.pairs.specs.Walk.{leaves_entry, leaves_word}
use Rattle.pairs.proofs.Tabled.leaves.Goals as goal

pub returns-in-Some : goal.returns-in-Some
returns-in-Some c = let t = c.args.self in
    let (k, l, at, same, first) = c.in-Some.ensures in
    sym (leaves_entry _ _ _ t.ready.entries _ _ c.in-Some.entry (rw at (get_d-in t.entries.now k _ l)) same)

pub has-requires : goal.has-requires
has-requires c = let t = c.args.self in omega (arith, c.single.ensures, t.held.room, single-below t.sizes.now c.args.i c.args.x c.requires.1)

pub returns-in-None : goal.returns-in-None
returns-in-None c = let t = c.args.self in
    c.has.ensures ∙ ap (has _) c.single.ensures
    ∙ sym (leaves_word _ _ _ t.ready.entries _ _ _ t.held c.requires.0 c.requires.1 (sym (named-names _ _ None c.in-None.ensures)))

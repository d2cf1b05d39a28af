-- `is_unclosed`: a pair of two unnamed variables is not; another is if the operator leaves both its atoms.
use mathlib.Core.Path.{◌≡◌, refl, sym, ◌∙◌}
use mathlib.Core.Bool.{true, ◌||◌}
use native.Mathlib.Omega.{arith}
use Rattle.meaning.specs.Task.{names}
use Rattle.theory.specs.Search.{and-none-left, or_left, or_right}
use Rattle.pairs.specs.Walk.{unnamed-closed, named-decided}
use Rattle.numbering.specs.Order.{values_join}
use Rattle.pairs.proofs.Tabled.is_unclosed.Goals as goal
use Rattle.pairs.proofs.Tabled.is_unclosed.Goals.{else-not-names-via-then-not-names+else-not-names-2, else-not-names-via-else-not-names, Joined-else-not-names}

-- Past the first test one of the variables is named.
named : (c : Joined-else-not-names) → let o = c.args.self.entries.now in (names o c.args.pair.block.first || names o c.args.pair.block.second) ≡ true
named c =
    let b = c.args.pair.block in
    let o = c.args.self.entries.now in
    elim c.else-not-names.branch [
      | else-not-names-via-then-not-names+else-not-names-2 w ↦ or_right (names o b.first) _ (sym w.names-then-not-names.ensures ∙ w.if-not-names-2.false)
      | else-not-names-via-else-not-names w ↦ or_left (names o b.first) (names o b.second) (sym c.names.ensures ∙ w.if-not-names.false)
    ]

pub returns-then-not-names-2 : goal.returns-then-not-names-2
returns-then-not-names-2 c = sym (unnamed-closed _ _ _ c.args.self.ready.entries _ _ _ _ _ (values_join _ _ _ _ c.requires refl)
    (sym c.names.ensures ∙ c.if-not-names.true) (sym c.names-then-not-names.ensures ∙ c.if-not-names-2.true))

pub leaves-requires : goal.leaves-requires
leaves-requires c = (omega (arith, c.values_in-values.ensures.ordered, c.values_in-values.ensures.place), c.values_in-values.ensures.first)

pub returns-then-leaves : goal.returns-then-leaves
returns-then-leaves c = sym (named-decided _ _ _ c.args.self.ready.entries _ _ _ _ _ c.values_in-values.ensures (named (goal.at.returns-then-leaves c).Joined-else-not-names)
    ∙ rw (← c.leaves.ensures, c.if-leaves.true, ← c.leaves-then-leaves.ensures) refl)

pub returns-else-leaves : goal.returns-else-leaves
returns-else-leaves c = c.if-leaves.false ∙ sym (named-decided _ _ _ c.args.self.ready.entries _ _ _ _ _ c.values_in-values.ensures (named (goal.at.returns-else-leaves c).Joined-else-not-names)
    ∙ and-none-left _ _ (sym c.leaves.ensures ∙ c.if-leaves.false))

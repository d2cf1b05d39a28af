-- `unclosed_from`: none of the listed pairs that the walk has passed is unclosed.
use Prim.Native.Nat.{ℕ}
use Rattle.std.specs.Prelude.{IfSome}
use Rattle.pairs.specs.Walk.{ListedAt, Reached, pairs_left}
use Rattle.pairs.proofs.Tabled.unclosed_from.Given as goal

abbrev pub invariant-loop-next : goal.invariant-loop-next
invariant-loop-next l = let t = l.self in
    IfSome l.next (ListedAt t.sizes.now t.pairs.now)
    × ((start : ℕ) → Reached t.sizes.now t.pairs.now t.entries.now start l.initial.next → Reached t.sizes.now t.pairs.now t.entries.now start l.next)

abbrev pub decreases-loop-next : goal.decreases-loop-next
decreases-loop-next l = pairs_left l.end l.next

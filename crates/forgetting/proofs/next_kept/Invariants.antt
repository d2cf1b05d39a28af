-- `next_kept`: nothing is kept from value x of variable i on and before value `from` of the variable at hand.
use Rattle.std.specs.Prelude.{◌≡◌, ◌≤◌}
use Rattle.meaning.specs.Workspace.{has}
use Rattle.forgetting.specs.Out.{out_by}
use Rattle.forgetting.specs.Kept.{kept_before, unknown_of}
use Rattle.forgetting.proofs.next_kept.Given as goal

abbrev pub invariant-loop-variable : goal.invariant-loop-variable
invariant-loop-variable l = let before = kept_before l.sizes (out_by l.sizes (has l.pairs) l.goal l.lean) in
    (l.from ≤ unknown_of l.sizes l.variable) × (before l.variable l.from ≡ before l.i l.x)
